use Rattle.std.proofs.Common.{◌≡◌, ◌<◌, ℕ}
use Rattle.cpog_defs.specs.Graphs.{arc_ref}
use Rattle.handshake_eqs.specs.Netlists.{wire_of, unless_zero}
use Rattle.handshake_eqs.proofs.comparing.has_wires_from.Given as goal

abbrev pub invariant-loop-v : goal.invariant-loop-v
invariant-loop-v l = (k : ℕ) → k < l.v → wire_of l.netlist l.u.0 k ≡ unless_zero (arc_ref l.graph l.u.0 k)
