use Rattle.std.proofs.Common.{◌<◌, ℕ}
use Rattle.handshake_eqs.specs.Netlists.{HasWiresFrom}
use Rattle.handshake_eqs.proofs.comparing.has_wires.Given as goal

abbrev pub invariant-loop-u : goal.invariant-loop-u
invariant-loop-u l = (k : ℕ) → k < l.u → HasWiresFrom l.graph l.netlist k
