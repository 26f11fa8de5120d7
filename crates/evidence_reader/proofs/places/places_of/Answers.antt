use Rattle.evidence_reader.proofs.PlaceSteps.{places_start}
use Rattle.evidence_reader.proofs.places.places_of.Goals as goal

pub lines-init : goal.lines-init
lines-init c = places_start c.args.names.now c.args.limit c.args.cursor.now c.new-places.result.items c.new-places.ensures.items
