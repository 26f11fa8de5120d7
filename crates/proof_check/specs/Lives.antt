-- Which clauses and additions are live, as flags.
use Rattle.std.specs.Prelude.{◌≡◌, ℕ, ◌-◌, ◌≤◌, ◌==◌, nat_le, Bool, true, false, if◌then◌else◌, List, [], ◌∷◌, length, take, Option, Some, None, slice_get, slice_index_or}
use Rattle.clause_arena.specs.Clauses.{Clause}
use Rattle.proof_check.specs.Lines.{Line, line_at}
use Rattle.proof_check.specs.Following.{Live, first_live, live_after, AllFollow}
use Rattle.proof_check.specs.Marks.{Within}

-- whether the flag at a place is set
abbrev pub flag : List Bool → ℕ → Bool
flag flags k = slice_index_or flags k false

-- the clause of the addition with this id, where its flag is set
abbrev pub line_clause : List Line → List Bool → ℕ → Option Clause
line_clause [] flags id = None
line_clause (l ∷ ls) [] id = None
line_clause (Line.Add i lits hints ∷ ls) (b ∷ bs) id = if i == id then (if b then Some lits else None) else line_clause ls bs id
line_clause (Line.Del ids ∷ ls) (b ∷ bs) id = line_clause ls bs id

-- the formula's clause with this id, where its flag is set
abbrev pub formula_clause : List Clause → List Bool → ℕ → Option Clause
formula_clause formula flags id = if id == 0 then None else (if flag flags (id - 1) then slice_get formula (id - 1) else None)

-- the clause of each id whose flag is set, of the formula or of an addition
abbrev pub live_by : List Clause → List Line → List Bool → List Bool → Live
live_by formula lines clauses_live lines_live id = if nat_le id (length formula) then formula_clause formula clauses_live id else line_clause lines lines_live id

-- the number of variables, how many lines were done, and for each clause and each line whether it is live
pub record ScratchState : Type 0 where
  pub variables : ℕ
  pub done : ℕ
  pub clauses_live : List Bool
  pub lines_live : List Bool

-- The scratch fits a formula, a log and an index.
pub record Fits (variables : ℕ) (formula : List Clause) (lines : List Line) (scratch : ScratchState) (index : ℕ) : Type 0 where
  pub variables_are : scratch.variables ≡ variables
  pub clauses_are : length scratch.clauses_live ≡ length formula
  pub lines_are : length scratch.lines_live ≡ length lines
  pub done : scratch.done ≡ index
  pub follow : AllFollow variables (length formula) (first_live formula) (take index lines)
  pub live : (id : ℕ) → live_after (first_live formula) (take index lines) id ≡ live_by formula lines scratch.clauses_live scratch.lines_live id
  pub later : (k : ℕ) → index ≤ k → flag scratch.lines_live k ≡ false

-- an addition's literals are within the variables
abbrev pub line_within : ℕ → Line → Type 0
line_within variables (Line.Add id lits hints) = Within variables lits
line_within variables (Line.Del ids) = Unit {0}

-- each line whose flag is set is within the variables
abbrev pub FlaggedWithin : ℕ → List Line → List Bool → Type 0
FlaggedWithin variables lines flags = (k : ℕ) → flag flags k ≡ true → line_within variables (line_at lines k)
