-- A text as its lines.
use Rattle.std.specs.Prelude.{◌≡◌, ℕ, ◌+◌, ◌-◌, ◌==◌, List, ◌∷◌, ◌++◌, length, take, map, slice_index, if◌then◌else◌}
use Rattle.std.specs.List.{AllByRecursion}
use Rattle.line_text.specs.Lines.{lines_of}

-- one carriage return at the end of a line is dropped
abbrev pub without_return : List ℕ → List ℕ
without_return line = if slice_index line (length line - 1) == 13 then take (length line - 1) line else line

-- the lines of a text without the carriage returns at their ends
abbrev pub graph_lines : List ℕ → List (List ℕ)
graph_lines bytes = map without_return (lines_of bytes)

-- the first line that is not good, by its number from 1
pub record IsFirstBad (Good : List ℕ → Type 0) (lines : List (List ℕ)) (n : ℕ) : Type 0 where
  pub before : List (List ℕ)
  pub line : List ℕ
  pub after : List (List ℕ)
  pub whole : lines ≡ before ++ line ∷ after
  pub number : n ≡ length before + 1
  pub good : AllByRecursion Good before
  pub bad : Good line → ⊥
