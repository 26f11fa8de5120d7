-- The steps of the loop over the places of a count.
use Rattle.std.proofs.Common.{◌≡◌, ℕ, List, [], subst, sym}
use Rattle.cpog_defs.specs.declared.types.Place.{Place}
use Rattle.line_rows.specs.Position.{Position}
use Rattle.line_rows.specs.Lined.{lined_of}
use Rattle.line_rows.proofs.LinedLoops.{with_rows, rows_start}
use Rattle.evidence_reader.specs.Rows.{is_member_row, place_in, open_head_in}
use Rattle.evidence_reader.specs.Shown.{same_state, places_at}

-- behind these places the rest is read from here
abbrev pub ArePlacesTo : List (List ℕ) → ℕ → Position → List Place → Position → Type 0
ArePlacesTo names limit start places p = with_rows places (lined_of is_member_row (λ _. place_in names) same_state (open_head_in limit) tt p) ≡ places_at names limit start

pub places_start : (names : List (List ℕ)) (limit : ℕ) (start : Position) (places : List Place) → places ≡ [] → ArePlacesTo names limit start places start
unfolding places_at
places_start names limit start places none =
    subst (λ (ps : List Place). ArePlacesTo names limit start ps start) (sym none) (rows_start (lined_of is_member_row (λ _. place_in names) same_state (open_head_in limit) tt start))
