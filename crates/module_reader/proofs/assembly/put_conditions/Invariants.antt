use Rattle.std.proofs.Common.{◌≡◌}
use Rattle.module_reader.proofs.AssemblyLaws.{mixed}
use Rattle.module_reader.proofs.assembly.put_conditions.Given as goal

abbrev pub invariant-loop-v : goal.invariant-loop-v
invariant-loop-v l = l.netlist ≡ record l.initial.netlist { conditions = mixed l.v l.conditions l.initial.netlist.conditions }
