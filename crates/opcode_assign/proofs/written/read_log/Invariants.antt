use Rattle.std.proofs.Common.{take}
use Rattle.std.specs.List.{AllByRecursion}
use Rattle.opcode_assign.specs.Logs.{has_variables}
use Rattle.opcode_assign.proofs.written.read_log.Given as goal

abbrev pub invariant-loop-i : goal.invariant-loop-i
invariant-loop-i l = AllByRecursion has_variables (take l.i l.log.lines)
