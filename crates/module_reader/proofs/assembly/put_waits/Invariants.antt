use Rattle.std.proofs.Common.{◌≡◌}
use Rattle.module_reader.proofs.AssemblyLaws.{mixed}
use Rattle.module_reader.proofs.assembly.put_waits.Given as goal

abbrev pub invariant-loop-v : goal.invariant-loop-v
invariant-loop-v l = l.netlist ≡ record l.initial.netlist { waits = mixed l.v l.waits l.initial.netlist.waits }
