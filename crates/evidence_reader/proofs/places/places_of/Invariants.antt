use Rattle.std.proofs.Common.{length}
use Rattle.evidence_reader.proofs.PlaceSteps.{ArePlacesTo}
use Rattle.evidence_reader.proofs.places.places_of.Given as goal

abbrev pub invariant-lines : goal.invariant-lines
invariant-lines l = ArePlacesTo l.names l.limit l.fn.cursor l.places.items l.cursor

abbrev pub decreases-lines : goal.decreases-lines
decreases-lines l = length l.cursor.lines
