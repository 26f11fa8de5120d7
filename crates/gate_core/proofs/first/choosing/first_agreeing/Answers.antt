use Rattle.std.proofs.Common.{Bool, true, false, slice_index, subst, arith, inl, inr}
use Rattle.std.proofs.lemmas.Bool.{cases_eq, both_ways}
use Rattle.gate_core.specs.Words.{IsMetBy}
use Rattle.gate_core.proofs.first.choosing.first_agreeing.Goals as goal

pub loop-n-preserved : goal.loop-n-preserved
loop-n-preserved c k sign l = elim (cases_eq k c.loop-n.n) [
  | inl same ↦ λ met. at_n sign (subst (λ i. IsMetBy c.args.asked.ones c.args.asked.zeros sign (slice_index c.args.words.now i)) same met)
  | inr other ↦ c.loop-n.invariant k sign (omega arith)
]
  where
    at_n : (sign : Bool) → IsMetBy c.args.asked.ones c.args.asked.zeros sign (slice_index c.args.words.now c.loop-n.n) → ⊥
    at_n false met = both_ways _ c.if-is_met_by.false (c.is_met_by.ensures.1 met)
    at_n true met = both_ways _ c.if-is_opposed_by.false (c.is_opposed_by.ensures.1 met)
