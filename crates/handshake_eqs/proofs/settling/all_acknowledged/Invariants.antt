use Rattle.std.proofs.Common.{◌≡◌, true, not, ◌||◌}
use Rattle.std.specs.FinSet as set
use Rattle.cpog_defs.specs.Orders.{all_below}
use Rattle.handshake_eqs.specs.Agreement.{condition_value}
use Rattle.handshake_eqs.proofs.settling.all_acknowledged.Given as goal

abbrev pub invariant-loop-v : goal.invariant-loop-v
invariant-loop-v l = all_below (λ v. set.contains l.acks v || not (condition_value l.netlist l.values v)) l.v ≡ true
