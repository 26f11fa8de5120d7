use Rattle.std.proofs.Common.{◌≡◌, ℕ, ◌<◌, length, slice_index_or, is_some}
use Rattle.std.specs.FinSet as set
use Rattle.cpog_defs.specs.Graphs.{arc_ref}
use Rattle.handshake_eqs.specs.Netlists.{unless_zero}
use Rattle.handshake_eqs.proofs.encoded.waits.Given as goal

abbrev pub invariant-loop-v : goal.invariant-loop-v
invariant-loop-v l = record {
  len : length l.sets.items ≡ l.v;
  each : (b : ℕ) → b < l.v → (a : ℕ) → set.contains (slice_index_or l.sets.items b set.empty) a ≡ is_some (unless_zero (arc_ref l.graph a b));
}
