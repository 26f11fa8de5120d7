use Rattle.std.proofs.Common.{◌≡◌, ◌≤◌, length, sym, ap, ◌∙◌, subst}
use Rattle.std.specs.Prelude.{replicate}
use Rattle.std.specs.List.{All}
use Rattle.std.proofs.lemmas.List.{length-replicate}
use Rattle.cpog_base.specs.declared.limits.TheConstants.{SCENARIO_LIMIT}
use Rattle.cpog_defs.specs.declared.types.Bit3.TheVariants.{Free}
use Rattle.cpog_merge.specs.Columns.{AreColumnsOf}
use Rattle.gate_core.specs.Columns.{IsOpenColumn}
use Rattle.graph_answers.specs.Synthesis.{free_patterns}
use Rattle.graph_answers.proofs.ReportLemmas.{orders_alike}
use Rattle.graph_answers.proofs.cnf.question_of.Goals as goal

pub merge-requires-clause-alike : goal.merge-requires-clause-alike
merge-requires-clause-alike c =
    let e = c.args.encodable in
    rw c.as_slice-orders.ensures.value (orders_alike e.file e.orders.items c.requires.orders c.requires.some)

pub returns-clause-classes : goal.returns-clause-classes
returns-clause-classes c =
    let e = c.args.encodable in
    let number : length c.in_ok-given.given.items ≡ length e.orders.items =
    ap length c.in_ok-given.ensures ∙ length-replicate (length c.as_slice-orders.result.now) (replicate e.bits Free) ∙ ap length c.as_slice-orders.ensures.value in
    record {
      orders = e.orders.items;
      of_file = c.requires.orders;
      some = c.requires.some;
      different = c.requires.different;
      number = number;
      bits_are = c.requires.bits;
      enough = c.requires.enough;
      columns = c.in_ok-columns.columns;
      are_columns = subst (λ orders. AreColumnsOf orders c.in_ok-columns.columns) c.as_slice-orders.ensures.value c.in_ok-columns.ensures.columns;
      are_classes = c.in_ok-classes.ensures.classes;
    }

pub returns-clause-question : goal.returns-clause-question
returns-clause-question c =
    let e = c.args.encodable in
    let given = c.in_ok-given.ensures in
    let number : length c.in_ok-given.given.items ≡ length e.orders.items =
    ap length given ∙ length-replicate (length c.as_slice-orders.result.now) (replicate e.bits Free) ∙ ap length c.as_slice-orders.ensures.value in
    let columns = subst (λ orders. AreColumnsOf orders c.in_ok-columns.columns) c.as_slice-orders.ensures.value c.in_ok-columns.ensures.columns in
    record {
      given = given ∙ ap (λ n. free_patterns n e.bits) (ap length c.as_slice-orders.ensures.value ∙ sym number);
      some = subst (λ n. 1 ≤ n) (sym number) c.requires.some;
      few = subst (λ n. n ≤ SCENARIO_LIMIT) (sym number) c.requires.few;
      some_bits = c.requires.least;
      few_bits = c.requires.few_bits;
      open_columns = subst (λ n. All (IsOpenColumn n) c.in_ok-classes.classes.columns) (columns.scenarios ∙ sym number) c.in_ok-classes.ensures.open_columns;
    }
