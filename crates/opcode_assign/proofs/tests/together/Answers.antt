use Rattle.opcode_assign.proofs.TogetherLemmas.{three_together}
use Rattle.opcode_assign.proofs.tests.together.Goals as goal

pub from_sets-requires-clause-order : goal.from_sets-requires-clause-order
from_sets-requires-clause-order c =
    three_together c.args.u.0 c.args.v.0 c.args.w.0 _ _ _ _ _ c.requires.first c.requires.second c.requires.third
    c.empty-ops.ensures c.insert.ensures c.insert-2.ensures c.insert-3.ensures c.in_ok-before.ensures
