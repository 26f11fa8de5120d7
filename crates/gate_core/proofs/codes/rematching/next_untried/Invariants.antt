use Rattle.std.proofs.Common.{ℕ, ◌<◌, IsTrue}
use Rattle.gate_core.specs.Matching.{is_in}
use Rattle.gate_core.proofs.codes.rematching.next_untried.Given as goal

abbrev pub invariant-loop-i : goal.invariant-loop-i
invariant-loop-i l = (k : ℕ) → k < l.i → IsTrue (is_in l.reached k) → IsTrue (is_in l.tried k)
