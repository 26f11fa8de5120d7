use Rattle.std.proofs.Common.{◌≡◌, ◌↔◌, true, ap, ◌∙◌, sym, subst}
use Rattle.cpog_defs.specs.Codes.{bit}
use Rattle.pg_normal.proofs.ChangeLemmas.{agree_more, agree_same}
use Rattle.pg_normal.proofs.instances.agreeing.Goals as goal
use Rattle.pg_normal.proofs.instances.agreeing.Goals.{then-is_set, else-is_set}

pub parameters-preserved : goal.parameters-preserved
parameters-preserved c = elim c.if-is_set.branch [
  | then-is_set w ↦ λ n h. agree_more c.args.binding.fixed c.args.binding.values n c.parameters.k (bit c.parameters.all.0 n) (bit c.if-is_set.all.0 n) (bit w.literal.result.0 n)
      (sym c.is_set.ensures ∙ w.if-is_set.true)
      (ap (λ t. bit t.0 n) w.all-is ∙ w.and-all.ensures n h)
      (subst (λ b. (bit w.literal.result.0 n ≡ true) ↔ (bit n c.parameters.k ≡ b)) w.is_set-then-is_set.ensures (w.literal.ensures n h))
      (c.parameters.invariant n h)
  | else-is_set w ↦ λ n h. agree_same c.args.binding.fixed c.args.binding.values n c.parameters.k (bit c.parameters.all.0 n) (bit c.if-is_set.all.0 n)
      (sym c.is_set.ensures ∙ w.if-is_set.false)
      (ap (λ t. bit t.0 n) w.all-is)
      (c.parameters.invariant n h)
]
