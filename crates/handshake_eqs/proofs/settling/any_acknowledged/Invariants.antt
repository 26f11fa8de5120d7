use Rattle.std.proofs.Common.{◌≡◌, false}
use Rattle.std.specs.FinSet as set
use Rattle.cpog_defs.specs.Orders.{any_below}
use Rattle.handshake_eqs.proofs.settling.any_acknowledged.Given as goal

abbrev pub invariant-loop-v : goal.invariant-loop-v
invariant-loop-v l = any_below (set.contains l.acks) l.v ≡ false
