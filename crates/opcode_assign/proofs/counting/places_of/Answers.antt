use Rattle.std.proofs.Common.{get_or, sym}
use Rattle.std.proofs.lemmas.Option.{get_or_from_slice_get}
use Rattle.cpog_defs.specs.declared.types.Place.TheVariants.{Op}
use Rattle.cpog_merge.specs.Incompatible.{place_at}
use Rattle.opcode_assign.proofs.CountingLemmas.{mapped_more}
use Rattle.opcode_assign.proofs.counting.places_of.Goals as goal

pub loop-k-preserved : goal.loop-k-preserved
loop-k-preserved c =
    mapped_more (place_at c.args.classes.now) c.args.taken.now 0 c.loop-k.k c.loop-k.places.items c.push.new.self.items c.place.result c.loop-k-test.true c.loop-k.invariant
    (sym (get_or_from_slice_get c.args.classes.now.places (get_or c.args.taken.now c.loop-k.k 0) c.place.result (Op (record { 0 = 0 })) c.place.ensures)) c.in_ok-push.ensures.items
