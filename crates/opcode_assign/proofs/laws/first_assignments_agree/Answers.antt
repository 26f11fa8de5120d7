use Rattle.opcode_assign.proofs.AssignmentLemmas.{one_first_assignment}
use Rattle.opcode_assign.proofs.laws.first_assignments_agree.Goals as goal

pub returns : goal.returns
returns c = one_first_assignment
