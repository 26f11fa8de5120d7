use Rattle.std.proofs.Common.{◌∙◌}
use Rattle.report_text.proofs.WritingLemmas.{at_place, arc_more}
use Rattle.report_text.proofs.writing.put_arcs_from.Goals as goal

pub seconds-preserved : goal.seconds-preserved
seconds-preserved c =
    c.in_ok-put_arc.ensures
    ∙ arc_more c.args.bits c.args.names.now c.args.graph.now c.args.u.0 c.seconds.v c.get-first.result.now
    c.get.result.now c.arc.result _ _ (at_place _ _ c.args.u.0 _ c.from.ensures c.get-first.ensures)
    (at_place _ _ c.seconds.v _ c.from-in-seconds.ensures c.get.ensures) c.arc.ensures c.seconds.invariant
