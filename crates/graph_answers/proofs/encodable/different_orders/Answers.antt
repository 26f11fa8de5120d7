use Rattle.std.proofs.Common.{◌≡◌, ◌≤◌, length, [], sym, subst, ◌∙◌, ap, inl, inr, arith}
use Rattle.std.proofs.lemmas.Bool.{both_ways}
use Rattle.std.proofs.lemmas.Result.{err_from_is_err_and}
use Rattle.cpog_base.specs.declared.status.Status.TheVariants as status
use Rattle.pg_normal.specs.Denoting.{scenario_names_of}
use Rattle.refusal_lines.specs.declared.refusal.Refusal.TheVariants as refusal
use Rattle.scenario_check.specs.Equals.{AreDifferent}
use Rattle.refusal_lines.specs.Refusal.{At, Tells}
use Rattle.graph_answers.specs.Refusals.{IsUnboundAnswer, IsCyclicAnswer, IsEqualAnswer, IsOrdersRefusal}
use Rattle.graph_answers.proofs.RefusalLemmas.{none_stated, some_orders}
use Rattle.refusal_lines.proofs.StopLemmas.{stop_map}
use Rattle.graph_answers.proofs.encodable.different_orders.Goals as goal

pub returns-then-is_empty-clause-err : goal.returns-then-is_empty-clause-err
returns-then-is_empty-clause-err c =
    let f = c.args.file.now in
    let none : scenario_names_of f ≡ [] = sym c.requires.names ∙ sym c.scenarios.ensures ∙ c.is_empty.ensures.0 c.if-is_empty.true in
    stop_map (Tells status.Names refusal.NoScenario) (IsOrdersRefusal f)
    (λ s x h. inl (h.0, record { named = c.requires.scope.in_order; none = none_stated f none; output_is = h.1 })) c.refuse.result c.refuse.ensures

pub returns-in_err-scenarios-clause-err : goal.returns-in_err-scenarios-clause-err
returns-in_err-scenarios-clause-err c =
    let p = err_from_is_err_and c.from_residual.result c.from_residual.ensures.1 in
    rw (p.1, p.2) (stop_map (At status.Names (IsUnboundAnswer c.args.file.now)) (IsOrdersRefusal c.args.file.now) (λ s x k. inr (inl k)) c.in_err-scenarios.field-0.0 c.in_err-scenarios.ensures.err)

pub returns-in_err-orders-clause-err : goal.returns-in_err-orders-clause-err
returns-in_err-orders-clause-err c =
    let p = err_from_is_err_and c.from_residual-in_err-orders.result c.from_residual-in_err-orders.ensures.1 in
    rw (p.1, p.2) (stop_map (At status.Cyclic (IsCyclicAnswer c.args.file.now)) (IsOrdersRefusal c.args.file.now) (λ s x k. inr (inr (inl k))) c.in_err-orders.field-0.0 c.in_err-orders.ensures.err)

pub returns-in_err-check_different-clause-err : goal.returns-in_err-check_different-clause-err
returns-in_err-check_different-clause-err c =
    let p = err_from_is_err_and c.from_residual-in_err-check_different.result c.from_residual-in_err-check_different.ensures.1 in
    rw (p.1, p.2) (stop_map (At status.Equal (IsEqualAnswer c.args.file.now)) (IsOrdersRefusal c.args.file.now) (λ s x k. inr (inr (inr k))) c.in_err-check_different.field-0.0 c.in_err-check_different.ensures.err)

pub returns-clause-some : goal.returns-clause-some
returns-clause-some c =
    some_orders c.args.file.now c.in_ok-orders.orders.items c.in_ok-orders.ensures.orders
    (λ none. both_ways _ c.if-is_empty.false (c.is_empty.ensures.1 (c.scenarios.ensures ∙ c.requires.names ∙ none)))

pub returns-clause-different : goal.returns-clause-different
returns-clause-different c = subst AreDifferent c.deref-2.ensures.value c.in_ok-check_different.ensures.ok
