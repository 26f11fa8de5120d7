use Rattle.std.proofs.Common.{◌∙◌, List, ap, length, subst, sym, arith}
use Rattle.std.specs.List.{All}
use Rattle.cpog_defs.specs.Orders.{Order, IsOrderOf}
use Rattle.cpog_defs.specs.Scenarios.{AreOrdersOf}
use Rattle.cpog_merge.specs.Columns.{AreColumnsOf, count_of}
use Rattle.report_judge.proofs.ReportLemmas.{orders_are_few, alike_by_count}
use Rattle.report_judge.proofs.basis.basis_of.Goals as goal

pub merge-requires-clause-some : goal.merge-requires-clause-some
merge-requires-clause-some c =
    let same = c.deref.ensures.value ∙ c.in_ok-orders.ensures in
    let is = c.version-version.ensures.report in
    omega (arith, ap length same, orders_are_few c.args.report.now is c.args.orders.items c.requires, is.some_scenario)

pub merge-requires-clause-few : goal.merge-requires-clause-few
merge-requires-clause-few c =
    let same = c.deref.ensures.value ∙ c.in_ok-orders.ensures in
    let is = c.version-version.ensures.report in
    omega (arith, ap length same, orders_are_few c.args.report.now is c.args.orders.items c.requires, is.few_scenarios)

pub merge-requires-clause-alike : goal.merge-requires-clause-alike
merge-requires-clause-alike c =
    let same = c.deref.ensures.value ∙ c.in_ok-orders.ensures in
    let is = c.version-version.ensures.report in
    subst (λ (os : List Order). All (IsOrderOf (count_of os)) os) (sym same) (alike_by_count c.args.report.now is c.args.orders.items c.requires)

pub returns : goal.returns
returns c =
    let r = c.args.report.now in
    let is = c.version-version.ensures.report in
    let columns = subst (λ (os : List Order). AreColumnsOf os c.in_ok-table.table) c.deref.ensures.value c.in_ok-table.ensures.columns in
    record {
      are_orders = subst (AreOrdersOf r.scenarios) (sym c.in_ok-orders.ensures) c.requires;
      are_columns = columns;
      are_classes = c.in_ok-classes.ensures.classes;
      entries = λ k d l. (c.in_ok-classes.ensures.open_columns k d l).entries ∙ columns.scenarios ∙ ap length c.in_ok-orders.ensures ∙ orders_are_few r is c.args.orders.items c.requires;
    }
