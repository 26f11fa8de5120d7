use Rattle.std.proofs.Common.{ℕ, ◌<◌}
use Rattle.gate_core.specs.Matching.{IsOwner}
use Rattle.gate_core.proofs.codes.rematching.owner.Given as goal

abbrev pub invariant-loop-i : goal.invariant-loop-i
invariant-loop-i l = (o : ℕ) → o < l.i → IsOwner l.count l.hole l.words l.word o → ⊥
