use Rattle.std.proofs.Common.{ℕ, ◌<◌, slice_index}
use Rattle.gate_core.specs.Words.{AreApart}
use Rattle.gate_core.proofs.first.choosing.first_pair_with.Given as goal

abbrev pub invariant-loop-k : goal.invariant-loop-k
invariant-loop-k l = (k : ℕ) → l.j < k → k < l.k → AreApart l.asked.ones l.asked.zeros (slice_index l.inputs l.j) (slice_index l.inputs k) → ⊥
