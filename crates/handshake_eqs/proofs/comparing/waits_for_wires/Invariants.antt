use Rattle.std.proofs.Common.{◌<◌, ℕ}
use Rattle.handshake_eqs.specs.Netlists.{WaitsForWires}
use Rattle.handshake_eqs.proofs.comparing.waits_for_wires.Given as goal

abbrev pub invariant-loop-v : goal.invariant-loop-v
invariant-loop-v l = (k : ℕ) → k < l.v → WaitsForWires l.netlist k
