-- A list of words, each behind a blank, taken one after another.
use Rattle.std.specs.Prelude.{ℕ, ◌==◌, List, [], ◌∷◌, Option, Some, None, if◌then◌else◌}
use Rattle.std.specs.List.{slice_split}
use Rattle.line_rows.specs.Words.{◌>>=?◌}

-- what a state becomes by words, one after another
abbrev pub words_from : {S : Type 0} → (S → List ℕ → Option S) → S → List (List ℕ) → Option S
words_from take s [] = Some s
words_from take s (w ∷ ws) = take s w >>=? λ t. words_from take t ws

-- each behind a blank
abbrev pub words_after : {S : Type 0} → (S → List ℕ → Option S) → S → List ℕ → Option S
words_after take s [] = Some s
words_after take s (b ∷ bs) = if b == 32 then words_from take s (slice_split (λ b. b == 32) bs) else None
