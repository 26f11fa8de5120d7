-- A list of distinct texts, numbered by their first occurrence.
use Rattle.std.specs.Prelude.{ℕ, Bool, List, [], ◌∷◌, ◌++◌, Option, position, if◌then◌else◌}
use Rattle.std.specs.List.{list_any, IsDistinct}
use Rattle.std.specs.Str.{bytes_eq}

-- whether the list has the text
abbrev pub has_text : List (List ℕ) → List ℕ → Bool
has_text names name = list_any (bytes_eq name) names

-- the place of a text, or none
abbrev pub place_of : List (List ℕ) → List ℕ → Option ℕ
place_of names name = position (bytes_eq name) names

-- the list with the text: a new text goes last
abbrev pub with_text : List (List ℕ) → List ℕ → List (List ℕ)
with_text names name = if has_text names name then names else names ++ name ∷ []

-- no text stands twice
abbrev pub AreDistinct : List (List ℕ) → Type 0
AreDistinct names = IsDistinct bytes_eq names
