use Rattle.std.proofs.Common.{◌≡◌, ℕ, ◌<◌, ◌^◌, get_or, Some}
use Rattle.cpog_base.specs.Bits.{IsWithin}
use Rattle.cpog_base.specs.Pattern.{given_at}
use Rattle.report_reader.specs.Codes.{entry_in}
use Rattle.report_reader.proofs.codes.entries_of.Given as goal

abbrev pub invariant-loop-i : goal.invariant-loop-i
invariant-loop-i l =
    (l.given.mask < 2 ^ l.i) × (l.given.value < 2 ^ l.i) × IsWithin l.given.value l.given.mask
    × ((k : ℕ) → k < l.i → entry_in (get_or l.entries k 0) ≡ Some (given_at l.given.mask l.given.value k))
