use Rattle.std.proofs.Common.{◌≡◌, map}
use Rattle.module_reader.proofs.AssemblyLaws.{mixed}
use Rattle.module_reader.proofs.assembly.put_wires.Given as goal

abbrev pub invariant-loop-u : goal.invariant-loop-u
invariant-loop-u l = l.netlist ≡ record l.initial.netlist { wires = mixed l.u (map (λ row. row.items) l.wires) l.initial.netlist.wires }
