use Rattle.std.proofs.Common.{◌≡◌, ◌<◌, ◌≤◌, ℕ, slice_index, bit_or, bit_and}
use Rattle.pg_normal.proofs.row.unite_words.Given as goal

abbrev pub invariant-places : goal.invariant-places
invariant-places l = record {
  done : (k : ℕ) → k < l.i → slice_index l.into k ≡ bit_or (slice_index l.fn.into k) (bit_and l.guard (slice_index l.from k));
  rest : (k : ℕ) → l.i ≤ k → slice_index l.into k ≡ slice_index l.fn.into k;
}
