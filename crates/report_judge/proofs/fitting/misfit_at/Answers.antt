use Rattle.std.proofs.Common.{◌∙◌, List, ap, length, subst, sym, arith, get_or}
use Rattle.cpog_defs.specs.Encodings.{Encoding}
use Rattle.cpog_defs.specs.Graphs.{ConditionalGraph}
use Rattle.cpog_defs.specs.Orders.{Order}
use Rattle.cpog_defs.specs.Scenarios.{Scenario, IsOrderOfScenario}
use Rattle.report_judge.proofs.ReportLemmas.{orders_length, order_at, count_at}
use Rattle.report_judge.proofs.fitting.misfit_at.Goals as goal

pub bounds-codes-s : goal.bounds-codes-s
bounds-codes-s c =
    let codes = c.codes.ensures.codes ∙ ap (λ (e : Encoding). e.codes) c.encoding-encoding.ensures in
    omega (arith, ap length codes, c.version-version.ensures.report.one_code_each, c.requires.within)

pub bounds-orders-s : goal.bounds-orders-s
bounds-orders-s c = omega (arith, orders_length c.args.report.now.scenarios c.args.orders.now c.requires.orders, c.requires.within)

pub first_misfit-requires-clause-order : goal.first_misfit-requires-clause-order
first_misfit-requires-clause-order c =
    let at = order_at c.args.report.now.scenarios c.args.orders.now c.args.s c.index-scenarios-s.result c.index-orders-s.result c.requires.orders c.requires.within in
    let scenario = c.index-scenarios-s.is ∙ ap (λ (xs : List Scenario). get_or xs c.args.s c.index-scenarios-s.result) c.scenarios.ensures in
    subst (λ (o : Order). IsOrderOfScenario c.index-scenarios-s.result o) (sym (c.as_order.ensures ∙ c.index-orders-s.is))
    (subst (λ (sc : Scenario). IsOrderOfScenario sc (get_or c.args.orders.now c.args.s c.index-orders-s.result)) (sym scenario) at)

pub first_misfit-requires-clause-count : goal.first_misfit-requires-clause-count
first_misfit-requires-clause-count c =
    let scenario = c.index-scenarios-s.is ∙ ap (λ (xs : List Scenario). get_or xs c.args.s c.index-scenarios-s.result) c.scenarios.ensures in
    count_at c.args.report.now c.version-version.ensures.report c.args.s c.index-scenarios-s.result c.requires.within scenario
    ∙ sym (ap (λ (g : ConditionalGraph). length g.ops) (c.graph.ensures.graph ∙ ap (λ (e : Encoding). e.graph) c.encoding-encoding.ensures))
