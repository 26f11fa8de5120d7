use Rattle.std.proofs.Common.{◌∙◌, ap, ap₂, slice_set}
use Rattle.cpog_defs.specs.declared.types.Bit3.TheVariants.{Free}
use Rattle.cpog_defs.specs.declared.types.Place.TheVariants.{Arc}
use Rattle.cpog_defs.specs.Columns.{entry}
use Rattle.cpog_merge.proofs.FillLemmas.{fill_more}
use Rattle.cpog_merge.proofs.filling.arc_column.Goals as goal

pub loop-s-preserved : goal.loop-s-preserved
loop-s-preserved c =
    let f = entry (Arc c.args.u c.args.v) in
    let orders = c.args.orders.now in
    let s = c.loop-s.s in
    let o = c.index-orders-s.result in
    c.set.ensures
    ∙ ap₂ (λ column b. slice_set column s b) c.loop-s.invariant (c.entry_of_arc.ensures ∙ ap f c.index-orders-s.is)
    ∙ fill_more f Free orders s o c.loop-s-test.true
