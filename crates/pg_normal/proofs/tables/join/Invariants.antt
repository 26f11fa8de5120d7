use Rattle.std.proofs.Common.{◌≡◌, ◌<◌, ◌≤◌, ℕ, [], length, ◌&&◌, ◌||◌, slice_index, slice_index_or}
use Rattle.cpog_defs.specs.Codes.{bit}
use Rattle.pg_normal.specs.Known.{HasFullRows}
use Rattle.pg_normal.proofs.tables.join.Given as goal

abbrev pub invariant-rows : goal.invariant-rows
invariant-rows l = record {
  square : HasFullRows (length l.fn.arcs) l.arcs;
  done : (u w n : ℕ) → w < l.v → bit (slice_index (slice_index_or l.arcs w []) u) n ≡
      (bit (slice_index (slice_index_or l.fn.arcs w []) u) n ||
      (bit (slice_index l.before u) n && bit (slice_index l.here w) n));
  rest : (w : ℕ) → l.v ≤ w → slice_index_or l.arcs w [] ≡ slice_index_or l.fn.arcs w [];
}
