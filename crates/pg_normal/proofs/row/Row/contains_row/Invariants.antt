use Rattle.std.proofs.Common.{◌≡◌, ◌<◌, ℕ, slice_index, true}
use Rattle.cpog_defs.specs.Codes.{bit}
use Rattle.pg_normal.proofs.row.Row.contains_row.Given as goal

abbrev pub invariant-places : goal.invariant-places
invariant-places l = (k n : ℕ) → k < l.i → n < 64 → bit (slice_index l.other k) n ≡ true → bit (slice_index l.self k) n ≡ true
