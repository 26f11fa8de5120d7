use Rattle.std.proofs.Common.{◌≡◌, [], slice_index_or, slice_set}
use Rattle.module_reader.proofs.AssemblyLaws.{mixed}
use Rattle.module_reader.proofs.assembly.put_wires_from.Given as goal

abbrev pub invariant-loop-v : goal.invariant-loop-v
invariant-loop-v l = l.netlist ≡ record l.initial.netlist { wires = slice_set l.initial.netlist.wires l.u (mixed l.v l.row (slice_index_or l.initial.netlist.wires l.u [])) }
