-- The lines of a text with free spacing, in which one carriage return before a line feed is dropped.
use Rattle.std.specs.Prelude.{◌≢◌, ℕ, ◌==◌, List, [], ◌∷◌, if◌then◌else◌}
use Rattle.std.specs.List.{AllByRecursion, slice_split}

-- without one carriage return at the end
abbrev pub without_return : List ℕ → List ℕ
without_return [] = []
without_return (b ∷ []) = if b == 13 then [] else b ∷ []
without_return (a ∷ b ∷ bs) = a ∷ without_return (b ∷ bs)

-- each part that a line feed ends, without its carriage return, and what stands behind the last line feed
abbrev pub fed : List (List ℕ) → List (List ℕ)
fed [] = []
fed ([] ∷ []) = []
fed ((b ∷ bs) ∷ []) = (b ∷ bs) ∷ []
fed (x ∷ y ∷ more) = without_return x ∷ fed (y ∷ more)

-- the lines of a text; a last line without a line feed counts, and its carriage return stays
abbrev pub free_lines : List ℕ → List (List ℕ)
free_lines bytes = fed (slice_split (λ b. b == 10) bytes)

-- no byte is a line feed or a carriage return
abbrev pub IsUnbroken : List ℕ → Type 0
IsUnbroken line = AllByRecursion (λ b. (b ≢ 10) × (b ≢ 13)) line
