use Rattle.std.proofs.Common.{ℕ, ◌<◌, Bool, slice_index}
use Rattle.gate_core.specs.Words.{IsMetBy}
use Rattle.gate_core.proofs.first.choosing.first_agreeing.Given as goal

abbrev pub invariant-loop-n : goal.invariant-loop-n
invariant-loop-n l = (k : ℕ) (sign : Bool) → k < l.n → IsMetBy l.asked.ones l.asked.zeros sign (slice_index l.words k) → ⊥
