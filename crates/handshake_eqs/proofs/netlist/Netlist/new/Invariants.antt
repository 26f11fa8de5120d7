use Rattle.std.proofs.Common.{◌≡◌, None, map, replicate}
use Rattle.handshake_eqs.proofs.netlist.Netlist.new.Given as goal

abbrev pub invariant-loop-u : goal.invariant-loop-u
invariant-loop-u l = map (λ row. row.items) l.wires.items ≡ replicate l._u (replicate l.count None)
