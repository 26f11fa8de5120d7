use Rattle.std.proofs.Common.{◌≡◌, ℕ, nat_lt, ◌&&◌}
use Rattle.std.specs.FinSet as set
use Rattle.handshake_eqs.specs.Agreement.{request_enabled}
use Rattle.handshake_eqs.proofs.settling.enabled.Given as goal

abbrev pub invariant-loop-v : goal.invariant-loop-v
invariant-loop-v l = (a : ℕ) → set.contains l.enabled a ≡ (nat_lt a l.v && request_enabled l.netlist l.values l.acks a)
