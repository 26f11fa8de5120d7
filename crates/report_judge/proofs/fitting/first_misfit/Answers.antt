use Rattle.std.proofs.Common.{◌∙◌, ℕ, List, ap, subst, sym}
use Rattle.std.specs.FinSet as set
use Rattle.cpog_defs.specs.Orders.{Set}
use Rattle.report_judge.specs.Fitting.{OperationFits}
use Rattle.report_judge.specs.Steps.{IsFirstDifference}
use Rattle.report_judge.proofs.FittingLemmas.{pairs_below, all_fit, first_disordered, none_of}
use Rattle.report_judge.proofs.fitting.first_misfit.Goals as goal

pub walks-requires-clause-ends : goal.walks-requires-clause-ends
walks-requires-clause-ends c =
    pairs_below c.args.graph.now c.args.values.now c.deref.result.now c.count.result (c.deref.ensures.value ∙ c.in_ok-arcs.ensures) c.count.ensures.count

pub returns-in-Some-first_difference : goal.returns-in-Some-first_difference
returns-in-Some-first_difference c =
    let graph = c.args.graph.now in
    let values = c.args.values.now in
    let sc = c.args.scenario.now in
    let o = c.args.order.now in
    let alike = none_of _ _ _ c.in_default.not-Some c.first_other.ensures in
    let operations : (w : ℕ) → OperationFits graph values sc w = λ w. sym (c.kept_ops-kept.ensures w) ∙ alike w ∙ ap (λ (s : Set). set.contains s w) c.ops.ensures in
    let difference = subst (λ (rows : List Set). IsFirstDifference rows o.before c.in-Some-first_difference.u.0 c.in-Some-first_difference.v.0) c.deref-2.ensures.value
    (subst (λ (others : List Set). IsFirstDifference c.deref-2.result.now others c.in-Some-first_difference.u.0 c.in-Some-first_difference.v.0) c.rows.ensures c.in-Some-first_difference.ensures) in
    first_disordered graph values c.deref.result.now c.in_ok-rows.rows.items c.in_ok-rows.ensures.walks (c.deref.ensures.value ∙ c.in_ok-arcs.ensures)
    sc o c.requires.order operations _ _ difference

pub returns : goal.returns
returns c =
    let graph = c.args.graph.now in
    let values = c.args.values.now in
    let sc = c.args.scenario.now in
    let o = c.args.order.now in
    let alike = none_of _ _ _ c.in_default.not-Some c.first_other.ensures in
    let rows = c.in_ok-rows.rows.items in
    record {
      operations = λ w. sym (c.kept_ops-kept.ensures w) ∙ alike w ∙ ap (λ (s : Set). set.contains s w) c.ops.ensures;
      pairs = all_fit graph values c.deref.result.now rows c.in_ok-rows.ensures.walks (c.deref.ensures.value ∙ c.in_ok-arcs.ensures) sc o c.requires.order c.requires.count
          (rw (c.deref-2.ensures.value, c.rows.ensures) at c.in-None.ensures) (c.in_ok-rows.ensures.length ∙ c.count.ensures.count);
    }
