-- Logs as lists of lines.
use Rattle.std.specs.Prelude.{ℕ, ◌+◌, ◌<◌, ◌==◌, Bool, true, false, List, [], ◌∷◌, length, slice_index_or}
use Rattle.std.specs.List.{AllByRecursion}
use Rattle.clause_arena.specs.Clauses.{Clause}

-- an addition with its id and hints, or a deletion
pub data Line : Type 0 where
  Add : (id : ℕ) (lits : Clause) (hints : List ℕ) → Line
  Del : (ids : List ℕ) → Line

-- what stands for the line at a place where there is none
abbrev pub no_line : Line
no_line = Line.Del []

-- the line at a place, from 0
abbrev pub line_at : List Line → ℕ → Line
line_at lines k = slice_index_or lines k no_line

-- the literals and hints of an addition, and the ids of a deletion
abbrev pub numbers_of : Line → ℕ
numbers_of (Line.Add id lits hints) = length lits + length hints
numbers_of (Line.Del ids) = length ids

-- of all lines together
abbrev pub numbers : List Line → ℕ
numbers [] = 0
numbers (line ∷ lines) = numbers_of line + numbers lines

-- the ids of the additions rise strictly and are above the last one
abbrev pub Rise : ℕ → List Line → Type 0
Rise last [] = Unit {0}
Rise last (Line.Add id lits hints ∷ lines) = (last < id) × Rise id lines
Rise last (Line.Del ids ∷ lines) = Rise last lines

-- the id of the last addition, or the given one where there is none
abbrev pub last_id : ℕ → List Line → ℕ
last_id last [] = last
last_id last (Line.Add id lits hints ∷ lines) = last_id id lines
last_id last (Line.Del ids ∷ lines) = last_id last lines

-- it is the addition of this id
abbrev pub is_add_of : ℕ → Line → Bool
is_add_of id (Line.Add i lits hints) = i == id
is_add_of id (Line.Del ids) = false

-- no hint and no deleted id is 0
abbrev pub ArePositive : List ℕ → Type 0
ArePositive ns = AllByRecursion (λ n. 0 < n) ns

-- of one line
abbrev pub line_positive : Line → Type 0
line_positive (Line.Add id lits hints) = ArePositive hints
line_positive (Line.Del ids) = ArePositive ids

-- of all lines
abbrev pub LinesPositive : List Line → Type 0
LinesPositive lines = AllByRecursion line_positive lines

-- an addition of no literals
abbrev pub is_empty_add : Line → Bool
is_empty_add (Line.Add id [] hints) = true
is_empty_add (Line.Add id (l ∷ lits) hints) = false
is_empty_add (Line.Del ids) = false
