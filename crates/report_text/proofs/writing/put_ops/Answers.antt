use Rattle.std.proofs.Common.{◌∙◌}
use Rattle.report_text.proofs.WritingLemmas.{at_place, op_more}
use Rattle.report_text.proofs.writing.put_ops.Goals as goal

pub ops-preserved : goal.ops-preserved
ops-preserved c =
    c.in_ok-put_op.ensures
    ∙ op_more c.args.bits c.args.names.now c.args.graph.now c.ops.v c.get.result.now c.op.result _ _ (at_place _ _ c.ops.v _ c.from.ensures c.get.ensures) c.op.ensures c.ops.invariant
