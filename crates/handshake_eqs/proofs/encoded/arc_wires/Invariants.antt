use Rattle.std.proofs.Common.{◌≡◌, map, take}
use Rattle.handshake_eqs.specs.Netlists.{unless_zero}
use Rattle.handshake_eqs.proofs.encoded.arc_wires.Given as goal

abbrev pub invariant-loop-u : goal.invariant-loop-u
invariant-loop-u l = map (λ row. row.items) l.rows.items ≡ map (map unless_zero) (take l.u l.graph.arcs)
