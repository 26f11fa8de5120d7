use Rattle.std.proofs.Common.{◌≡◌, ℕ, ◌&&◌, nat_lt, is_some}
use Rattle.std.specs.FinSet as set
use Rattle.cpog_defs.specs.Graphs.{arc_ref}
use Rattle.handshake_eqs.specs.Netlists.{unless_zero}
use Rattle.handshake_eqs.proofs.encoded.waits_of.Given as goal

abbrev pub invariant-loop-u : goal.invariant-loop-u
invariant-loop-u l = (a : ℕ) → set.contains l.waits a ≡ (nat_lt a l.u && is_some (unless_zero (arc_ref l.graph a l.v.0)))
