-- How the rows of a report's head are read.
use Rattle.std.specs.Prelude.{◌≡◌, true, ℕ, Bool, ◌&&◌, not, ◌==◌, nat_le, nat_lt, List, [], ◌∷◌, ◌++◌, length, Option, Some, None, codes, if◌then◌else◌}
use Rattle.std.specs.List.{slice_split}
use Rattle.cpog_base.specs.Names.{has_text}
use Rattle.line_text.specs.Words.{is_free_name}
use Rattle.line_rows.specs.Words.{◌>>=?◌, number_in, behind_of, made_of}

-- a number that is no less than another
abbrev pub some_from : ℕ → ℕ → Option ℕ
some_from low n = if nat_le low n then Some n else None

-- the number of bits that a line says, from 1 to 8
unfoldable pub bits_in : List ℕ → Option ℕ
bits_in = behind_of (codes "bits ") (made_of (some_from 1) (number_in 9))

-- the budget that a line says, from 1 to 8388608
unfoldable pub budget_in : List ℕ → Option ℕ
budget_in = behind_of (codes "budget ") (made_of (some_from 1) (number_in 8388609))

-- the names that are left, behind these; each is free and new, and there are no more than the limit
abbrev pub is_next : ℕ → List (List ℕ) → List ℕ → Bool
is_next limit done w = is_free_name w && (not (has_text done w) && nat_lt (length done) limit)

abbrev pub names_from : ℕ → List (List ℕ) → List (List ℕ) → Option (List (List ℕ))
names_from limit done [] = Some done
names_from limit done (w ∷ ws) = if is_next limit done w then names_from limit (done ++ w ∷ []) ws else None

-- each behind a blank
abbrev pub names_after : ℕ → List (List ℕ) → List ℕ → Option (List (List ℕ))
names_after limit done [] = Some done
names_after limit done (b ∷ bs) = if b == 32 then names_from limit done (slice_split (λ b. b == 32) bs) else None

unfoldable pub operations_in : List ℕ → Option (List (List ℕ))
operations_in = behind_of (codes "operations") (names_after 64 [])

-- each is free and none of those before it, and there are no more than the limit
abbrev pub AreNext : ℕ → List (List ℕ) → List (List ℕ) → Type 0
AreNext limit done [] = Unit {0}
AreNext limit done (w ∷ ws) = (is_next limit done w ≡ true) × AreNext limit (done ++ w ∷ []) ws
