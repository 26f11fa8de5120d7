use Rattle.std.proofs.Common.{◌≡◌, ◌<◌, ℕ, length, slice_index_or}
use Rattle.proof_check.proofs.scratch.next_stamp.Given as goal

abbrev pub invariant-loop-i : goal.invariant-loop-i
invariant-loop-i l = record {
  size : length l.marks.items ≡ length l.initial.marks.items;
  clear : (k : ℕ) → k < l.i → slice_index_or l.marks.items k 0 ≡ 0;
}
