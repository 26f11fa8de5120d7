use Rattle.std.proofs.Common.{take}
use Rattle.std.specs.List.{AllByRecursion}
use Rattle.opcode_assign.specs.Logs.{HasVariable}
use Rattle.opcode_assign.proofs.written.read_literals.Given as goal

abbrev pub invariant-loop-k : goal.invariant-loop-k
invariant-loop-k l = AllByRecursion HasVariable (take l.k l.lits)
