-- What `solve` prints for the text of a formula.
use Rattle.std.specs.Prelude.{◌≡◌, ◌⊎◌, ℕ, ◌+◌, ◌*◌, ◌^◌, ◌<◌, ◌≤◌, Bool, not, List, [], ◌∷◌, map, codes, length}
use Rattle.cpog_base.specs.declared.limits.Counted.TheVariants as counted
use Rattle.cpog_base.specs.declared.limits.TheConstants.{LONG_INPUT_LIMIT, VARIABLE_LIMIT}
use Rattle.cpog_base.specs.declared.status.Status.{Status}
use Rattle.cpog_base.specs.declared.status.Status.TheVariants as status
use Rattle.clause_arena.specs.Clauses.{Lit, Clause, Satisfies, HaveNoSolution, by_place}
use Rattle.proof_check.specs.Following.{Refutes}
use Rattle.proof_check.specs.Lines.{Line}
use Rattle.proof_check.specs.Progress.{IsProgressLog, StaysBelow, Spends}
use Rattle.dimacs_text.specs.Formulas.{SpellsFormula}
use Rattle.dimacs_text.specs.Logs.{ended, lit_word, SpellsLog}
use Rattle.dimacs_text.specs.Texts.{IsFormulaText}
use Rattle.dimacs_text.specs.Writing.{log_lines}
use Rattle.line_text.specs.Lines.{text_of}
use Rattle.sat_engine.specs.declared.outcome.Outcome.{Outcome}
use Rattle.sat_engine.specs.declared.outcome.Outcome.TheVariants.{Sat, Refuted, Open}
use Rattle.text_rows.specs.FirstBad.{IsFirstBad}
use Rattle.text_rows.specs.Lines.{free_lines}
use Rattle.text_rows.specs.Words.{spaced}
use Rattle.refusal_lines.specs.declared.refusal.Refusal.TheVariants as refusal
use Rattle.refusal_lines.specs.Refusal.{refusal_text, At}

-- ---- texts

-- the literals that these values make true, of the variables from this one on
abbrev pub true_literals : ℕ → List Bool → List Lit
true_literals variable [] = []
true_literals variable (value ∷ values) = record { var = variable; negated = not value } ∷ true_literals (variable + 1) values

-- the literal of each variable, and `0`
abbrev pub values_line : List Bool → List ℕ
values_line values = spaced (codes "v" ∷ ended (map lit_word (true_literals 1 values)))

abbrev pub values_text : List Bool → List ℕ
values_text values = text_of (codes "s SATISFIABLE" ∷ values_line values ∷ [])

-- a line, and the log behind it
abbrev pub log_text : List ℕ → List Line → List ℕ
log_text line log = text_of (line ∷ log_lines log)

-- the text of what is found
abbrev pub outcome_text : Outcome → List ℕ
outcome_text (Sat values) = values_text values.items
outcome_text (Refuted log) = log_text (codes "s UNSATISFIABLE") log.lines
outcome_text (Open log) = log_text (codes "s UNKNOWN") log.lines

-- ---- what is found of a formula

-- an assignment of all variables that satisfies each clause
pub record IsSatAnswer (variables : ℕ) (clauses : List Clause) (output : List ℕ) : Type 0 where
  pub values : List Bool
  pub each : length values ≡ variables
  pub satisfies : Satisfies (by_place values) clauses
  pub output_is : output ≡ values_text values

-- a log that refutes it, so that no assignment satisfies it, and spends the budget with its last line at most; the
-- printed lines spell this log, behind a formula of so many clauses
pub record IsUnsatAnswer (budget variables : ℕ) (clauses : List Clause) (output : List ℕ) : Type 0 where
  pub log : List Line
  pub spells : SpellsLog variables (length clauses) (log_lines log) log
  pub refutes : Refutes variables clauses log
  pub unsatisfiable : HaveNoSolution clauses
  pub below : StaysBelow budget log
  pub output_is : output ≡ log_text (codes "s UNSATISFIABLE") log

-- a progress log that spends the budget, which isn't great for so few variables; the printed lines spell this log,
-- behind a formula of so many clauses
pub record IsUnknownAnswer (budget variables : ℕ) (clauses : List Clause) (output : List ℕ) : Type 0 where
  pub log : List Line
  pub spells : SpellsLog variables (length clauses) (log_lines log) log
  pub progress : IsProgressLog variables clauses log
  pub spends : Spends budget log
  pub small : budget ≤ 3 ^ variables * (2 * variables + 1)
  pub output_is : output ≡ log_text (codes "s UNKNOWN") log

-- one of the three
abbrev pub IsFound : ℕ → ℕ → List Clause → List ℕ → Type 0
IsFound budget variables clauses output = IsSatAnswer variables clauses output ⊎ (IsUnsatAnswer budget variables clauses output ⊎ IsUnknownAnswer budget variables clauses output)

-- ---- what is printed for a text

-- the first bad line
pub record IsBadFormulaAnswer (bytes : List ℕ) (output : List ℕ) : Type 0 where
  pub line : ℕ
  pub first : IsFirstBad IsFormulaText (free_lines bytes) line
  pub output_is : output ≡ refusal_text (refusal.Text line)

-- the lines spell a formula of more variables than are taken
pub record IsWideFormulaAnswer (bytes : List ℕ) (output : List ℕ) : Type 0 where
  pub variables : ℕ
  pub clauses : List Clause
  pub spells : SpellsFormula (free_lines bytes) variables clauses
  pub many : VARIABLE_LIMIT < variables
  pub output_is : output ≡ refusal_text (refusal.Limit counted.Variables VARIABLE_LIMIT)

-- the refusals of the text of a formula
abbrev pub IsFormulaRefusal : List ℕ → Status → List ℕ → Type 0
IsFormulaRefusal bytes s output = At status.Text (IsBadFormulaAnswer bytes) s output ⊎ At status.Limit (IsWideFormulaAnswer bytes) s output

-- what is found of the formula that the lines spell
pub record IsSolvedAnswer (budget : ℕ) (bytes : List ℕ) (output : List ℕ) : Type 0 where
  pub variables : ℕ
  pub clauses : List Clause
  pub spells : SpellsFormula (free_lines bytes) variables clauses
  pub few : variables ≤ VARIABLE_LIMIT
  pub found : IsFound budget variables clauses output

abbrev pub IsSolveAnswer : ℕ → List ℕ → Status → List ℕ → Type 0
IsSolveAnswer budget bytes s output = IsFormulaRefusal bytes s output ⊎ At status.Ok (IsSolvedAnswer budget bytes) s output

-- the bytes are within the limit and spell a formula of at most 16777216 variables
pub record SpellFormula (bytes : List ℕ) : Type 0 where
  pub within : length bytes ≤ LONG_INPUT_LIMIT
  pub variables : ℕ
  pub clauses : List Clause
  pub spells : SpellsFormula (free_lines bytes) variables clauses
  pub few : variables ≤ VARIABLE_LIMIT
