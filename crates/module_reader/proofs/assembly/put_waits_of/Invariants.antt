use Rattle.std.proofs.Common.{◌≡◌, slice_set}
use Rattle.module_reader.proofs.AssemblyLaws.{up_to}
use Rattle.module_reader.proofs.assembly.put_waits_of.Given as goal

abbrev pub invariant-loop-u : goal.invariant-loop-u
invariant-loop-u l = l.netlist ≡ record l.initial.netlist { waits = slice_set l.initial.netlist.waits l.v (up_to l.waits l.u) }
