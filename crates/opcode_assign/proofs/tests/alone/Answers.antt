use Rattle.cpog_merge.proofs.AloneLemmas.{one_alone}
use Rattle.opcode_assign.proofs.tests.alone.Goals as goal

pub from_sets-requires-clause-order : goal.from_sets-requires-clause-order
from_sets-requires-clause-order c = one_alone c.args.count c.args.v.0 _ _ _ c.requires.operation c.empty-ops.ensures c.insert.ensures c.in_ok-before.ensures
