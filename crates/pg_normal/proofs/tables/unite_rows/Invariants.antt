use Rattle.std.proofs.Common.{◌≡◌, ◌<◌, ◌≤◌, ℕ, [], length, ◌&&◌, ◌||◌, slice_index, slice_index_or}
use Rattle.cpog_defs.specs.Codes.{bit}
use Rattle.pg_normal.specs.Known.{HasFullRows}
use Rattle.pg_normal.proofs.tables.unite_rows.Given as goal

abbrev pub invariant-rows : goal.invariant-rows
invariant-rows l = record {
  square : HasFullRows (length l.fn.into) l.into;
  done : (u w n : ℕ) → w < l.v → bit (slice_index (slice_index_or l.into w []) u) n ≡
      (bit (slice_index (slice_index_or l.fn.into w []) u) n ||
      (bit l.guard.0 n && bit (slice_index (slice_index_or l.from w []) u) n));
  rest : (w : ℕ) → l.v ≤ w → slice_index_or l.into w [] ≡ slice_index_or l.fn.into w [];
}
