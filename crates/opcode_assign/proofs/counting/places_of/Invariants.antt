use Rattle.std.proofs.Common.{◌≡◌, map, take}
use Rattle.cpog_merge.specs.Incompatible.{place_at}
use Rattle.opcode_assign.proofs.counting.places_of.Given as goal

abbrev pub invariant-loop-k : goal.invariant-loop-k
invariant-loop-k l = l.places.items ≡ map (place_at l.classes) (take l.k l.taken)
