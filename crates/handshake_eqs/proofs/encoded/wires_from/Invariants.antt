use Rattle.std.proofs.Common.{◌≡◌, [], map, take, slice_index_or}
use Rattle.handshake_eqs.specs.Netlists.{unless_zero}
use Rattle.handshake_eqs.proofs.encoded.wires_from.Given as goal

abbrev pub invariant-loop-v : goal.invariant-loop-v
invariant-loop-v l = l.row.items ≡ map unless_zero (take l.v (slice_index_or l.graph.arcs l.u.0 []))
