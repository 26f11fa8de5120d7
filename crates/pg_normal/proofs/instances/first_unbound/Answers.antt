use Rattle.std.proofs.Common.{◌≡◌, false, ◌∙◌, sym, subst, inl, inr, arith}
use Rattle.std.proofs.lemmas.Bool.{cases_eq, both_ways}
use Rattle.cpog_defs.specs.Codes.{bit}
use Rattle.pg_normal.specs.Changes.{KeepsGraph}
use Rattle.pg_normal.proofs.ChangeLemmas.{unbound_from}
use Rattle.pg_normal.proofs.instances.first_unbound.Goals as goal
use Rattle.pg_normal.proofs.instances.first_unbound.Goals.{else-not-is_set-via-then-not-is_set+else-graph_changes, else-not-is_set-via-else-not-is_set}

pub returns-then-graph_changes : goal.returns-then-graph_changes
returns-then-graph_changes c =
    unbound_from c.args.form.now c.args.binding.fixed c.args.binding.values c.args.among.0 c.requires c.parameters.k
    (omega arith) (sym c.is_set.ensures ∙ c.if-not-is_set.true) c.if-graph_changes.ensures c.parameters.invariant

pub parameters-preserved : goal.parameters-preserved
parameters-preserved c = elim c.else-not-is_set.branch [
  | else-not-is_set-via-then-not-is_set+else-graph_changes w ↦ λ j lt free. elim (cases_eq j c.parameters.k) [
    | inl e ↦ subst (λ i. KeepsGraph c.args.form.now i c.args.among.0) (sym e) w.if-graph_changes.ensures
    | inr ne ↦ c.parameters.invariant j (omega arith) free
  ]
  | else-not-is_set-via-else-not-is_set w ↦ λ j lt free. elim (cases_eq j c.parameters.k) [
    | inl e ↦ absurd (both_ways _ (subst (λ i. bit c.args.binding.fixed i ≡ false) e free) (sym c.is_set.ensures ∙ w.if-not-is_set.false))
    | inr ne ↦ c.parameters.invariant j (omega arith) free
  ]
]
