use Rattle.std.proofs.Common.{◌∙◌}
use Rattle.report_text.proofs.WritingLemmas.{at_place, first_below, second_below, covers_more}
use Rattle.report_text.proofs.writing.put_covers.Goals as goal

pub get-first-requires : goal.get-first-requires
get-first-requires c =
    first_below c.args.scenario.now c.arcs-arc-items.result.now c.arcs.arc-index _ _
    (record { 0 = 0 }, record { 0 = 0 }) c.requires.scenario c.arcs-arc-items.ensures c.arcs-test.true c.from.ensures
    c.requires.count

pub get-second-requires : goal.get-second-requires
get-second-requires c =
    second_below c.args.scenario.now c.arcs-arc-items.result.now c.arcs.arc-index _ _
    (record { 0 = 0 }, record { 0 = 0 }) c.requires.scenario c.arcs-arc-items.ensures c.arcs-test.true
    c.from-in-arcs.ensures c.requires.count

pub arcs-preserved : goal.arcs-preserved
arcs-preserved c =
    c.in_ok-write.ensures.bytes
    ∙ covers_more c.args.names.now c.arcs-arc-items.result.now c.arcs.arc-index
    (record { 0 = 0 }, record { 0 = 0 }) c.get-first.result.now c.get-second.result.now _ _ c.arcs-test.true
    (at_place _ _ _ _ c.from.ensures c.get-first.ensures)
    (at_place _ _ _ _ c.from-in-arcs.ensures c.get-second.ensures) c.arcs.invariant
