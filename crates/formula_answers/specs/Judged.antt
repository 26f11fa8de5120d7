-- What `lrat` prints for a formula and a log.
use Rattle.std.specs.Prelude.{◌≡◌, ◌⊎◌, List, ℕ, ◌<◌, ◌≤◌, length, codes}
use Rattle.clause_arena.specs.Clauses.{Clause, HaveNoSolution}
use Rattle.cpog_base.specs.declared.limits.Counted.TheVariants as counted
use Rattle.cpog_base.specs.declared.limits.TheConstants.{LONG_INPUT_LIMIT, VARIABLE_LIMIT}
use Rattle.cpog_base.specs.declared.status.Status.{Status}
use Rattle.cpog_base.specs.declared.status.Status.TheVariants as status
use Rattle.dimacs_text.specs.Texts.{SpellsJoined, IsJoinedText}
use Rattle.proof_check.specs.Lines.{Line}
use Rattle.proof_check.specs.Following.{first_live, AllFollow, HasEmpty, Refutes, IsFirstBreak}
use Rattle.text_rows.specs.FirstBad.{IsFirstBad}
use Rattle.text_rows.specs.Lines.{free_lines}
use Rattle.refusal_lines.specs.declared.refusal.Refusal.TheVariants as refusal
use Rattle.refusal_lines.specs.Refusal.{refusal_text, At}

-- the line that says that a log refutes its formula
abbrev pub refuted_text : List ℕ
refuted_text = codes "cpog: refuted\n"

-- the bytes spell a formula and, behind the line `lrat`, a log
abbrev pub Spell : List ℕ → ℕ → List Clause → List Line → Type 0
Spell bytes = SpellsJoined (free_lines bytes)

-- the first line that no formula with a log has in its place
pub record IsBadRowAnswer (bytes : List ℕ) (output : List ℕ) : Type 0 where
  pub line : ℕ
  pub first : IsFirstBad IsJoinedText (free_lines bytes) line
  pub output_is : output ≡ refusal_text (refusal.Text line)

-- the formula has more variables than are taken
pub record IsWideAnswer (bytes : List ℕ) (output : List ℕ) : Type 0 where
  pub variables : ℕ
  pub formula : List Clause
  pub log : List Line
  pub spelled : Spell bytes variables formula log
  pub many : VARIABLE_LIMIT < variables
  pub output_is : output ≡ refusal_text (refusal.Limit counted.Variables VARIABLE_LIMIT)

-- the log refutes the formula, and no assignment satisfies it
pub record IsRefutedAnswer (bytes : List ℕ) (output : List ℕ) : Type 0 where
  pub variables : ℕ
  pub formula : List Clause
  pub log : List Line
  pub spelled : Spell bytes variables formula log
  pub few : variables ≤ VARIABLE_LIMIT
  pub refutes : Refutes variables formula log
  pub unsatisfiable : HaveNoSolution formula
  pub output_is : output ≡ refuted_text

-- the first line of the log that doesn't follow, and the first hint of it that breaks the rule
pub record IsBreakAnswer (bytes : List ℕ) (output : List ℕ) : Type 0 where
  pub variables : ℕ
  pub formula : List Clause
  pub log : List Line
  pub spelled : Spell bytes variables formula log
  pub few : variables ≤ VARIABLE_LIMIT
  pub line : ℕ
  pub hint : ℕ
  pub first : IsFirstBreak variables formula log line hint
  pub output_is : output ≡ refusal_text (refusal.NoLine line hint)

-- all lines of the log follow, and none is empty
pub record IsOpenAnswer (bytes : List ℕ) (output : List ℕ) : Type 0 where
  pub variables : ℕ
  pub formula : List Clause
  pub log : List Line
  pub spelled : Spell bytes variables formula log
  pub few : variables ≤ VARIABLE_LIMIT
  pub follow : AllFollow variables (length formula) (first_live formula) log
  pub none_empty : HasEmpty log → ⊥
  pub output_is : output ≡ refusal_text refusal.NoEmptyClause

-- the bytes are refused before the log is checked
abbrev pub IsJoinedRefusal : List ℕ → Status → List ℕ → Type 0
IsJoinedRefusal bytes s output = At status.Text (IsBadRowAnswer bytes) s output ⊎ At status.Limit (IsWideAnswer bytes) s output

-- the log is checked, and isn't a refutation
abbrev pub IsNoAnswer : List ℕ → Status → List ℕ → Type 0
IsNoAnswer bytes s output = At status.No (IsBreakAnswer bytes) s output ⊎ At status.No (IsOpenAnswer bytes) s output

-- what is printed for the bytes
abbrev pub IsLratAnswer : List ℕ → Status → List ℕ → Type 0
IsLratAnswer bytes s output = IsJoinedRefusal bytes s output ⊎ (IsNoAnswer bytes s output ⊎ At status.Ok (IsRefutedAnswer bytes) s output)

-- the bytes are within the limit and spell a formula of not too many variables, and a log that refutes it
pub record SpellRefutation (bytes : List ℕ) : Type 0 where
  pub within : length bytes ≤ LONG_INPUT_LIMIT
  pub variables : ℕ
  pub formula : List Clause
  pub log : List Line
  pub spelled : Spell bytes variables formula log
  pub few : variables ≤ VARIABLE_LIMIT
  pub refutes : Refutes variables formula log
