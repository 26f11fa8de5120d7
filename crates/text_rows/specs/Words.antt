-- The words of a line with free spacing.
use Rattle.std.specs.Prelude.{◌≡◌, ℕ, Bool, true, false, ◌||◌, ◌==◌, ◌<◌, List, [], ◌∷◌, ◌++◌, length, if◌then◌else◌}
use Rattle.std.specs.List.{AllByRecursion, slice_split}
use Rattle.std.specs.Fmt.{decimal}

-- a blank or a tab
abbrev pub is_space : ℕ → Bool
is_space b = (b == 32) || (b == 9)

-- the words that have bytes
abbrev pub without_empty : List (List ℕ) → List (List ℕ)
without_empty [] = []
without_empty ([] ∷ more) = without_empty more
without_empty ((b ∷ bs) ∷ more) = (b ∷ bs) ∷ without_empty more

-- the words, between blanks and tabs
abbrev pub tokens : List ℕ → List (List ℕ)
tokens bytes = without_empty (slice_split is_space bytes)

-- no byte is a blank or a tab
abbrev pub NoSpace : List ℕ → Type 0
NoSpace word = AllByRecursion (λ b. is_space b ≡ false) word

-- a word ends before these bytes
abbrev pub EndsWord : List ℕ → Type 0
EndsWord [] = Unit {0}
EndsWord (b ∷ bs) = is_space b ≡ true

-- a number, behind a minus where it is negated
abbrev pub signed_word : Bool → ℕ → List ℕ
signed_word negated n = if negated then 45 ∷ decimal n else decimal n

-- words with one blank between each two
abbrev pub spaced : List (List ℕ) → List ℕ
spaced [] = []
spaced (w ∷ []) = w
spaced (w ∷ x ∷ words) = w ++ 32 ∷ spaced (x ∷ words)

-- bytes that are read as one word: there are some, and each is above the blank
abbrev pub IsWord : List ℕ → Type 0
IsWord word = (0 < length word) × AllByRecursion (λ b. 32 < b) word
