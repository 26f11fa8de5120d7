-- The texts of formulas, and of a formula with a log.
use Rattle.std.specs.Prelude.{◌≡◌, ℕ, ◌<◌, true, false, List, ◌∷◌, ◌++◌, length, codes}
use Rattle.std.specs.List.{AllByRecursion}
use Rattle.clause_arena.specs.Clauses.{Clause}
use Rattle.proof_check.specs.Lines.{Line}
use Rattle.text_rows.specs.Words.{tokens}
use Rattle.dimacs_text.specs.Logs.{is_passed, SpellsLog}
use Rattle.dimacs_text.specs.Formulas.{header_words, SpellsFormula}

-- the lines spell some formula
abbrev pub IsFormulaText : List (List ℕ) → Type 0
IsFormulaText lines = (variables : ℕ) × (clauses : List Clause) × SpellsFormula lines variables clauses

-- the lines spell a formula, and behind the line `lrat` a log of it
abbrev pub SpellsJoined : List (List ℕ) → ℕ → List Clause → List Line → Type 0
SpellsJoined lines variables clauses log = (formula_lines : List (List ℕ)) × (log_lines : List (List ℕ)) × (lines ≡ formula_lines ++ codes "lrat" ∷ log_lines)
    × SpellsFormula formula_lines variables clauses × SpellsLog variables (length clauses) log_lines log

-- the lines spell some formula and log
abbrev pub IsJoinedText : List (List ℕ) → Type 0
IsJoinedText lines = (variables : ℕ) × (clauses : List Clause) × (log : List Line) × SpellsJoined lines variables clauses log

-- lines that are passed over, and the `p` line
pub record IsFront (front : List (List ℕ)) (line : List ℕ) (variables count : ℕ) : Type 0 where
  pub passed : AllByRecursion (λ l. is_passed l ≡ true) front
  pub header : is_passed line ≡ false
  pub words : tokens line ≡ header_words variables count
  pub few_variables : variables < 10000000000
  pub few : count < 10000000000
