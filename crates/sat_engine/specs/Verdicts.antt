-- What each end of the search says of the formula.
use Rattle.std.specs.Prelude.{◌≡◌, ℕ, List}
use Rattle.proof_check.specs.Following.{Refutes}
use Rattle.proof_check.specs.Progress.{IsProgressLog, StaysBelow, Spends}
use Rattle.proof_check.specs.Lines.{Line}
use Rattle.clause_arena.specs.Clauses.{Clause}
use Rattle.sat_trail.specs.Trails.{TrailState, true_lits, IsTrail}
use Rattle.sat_engine.specs.Findings.{AllQuiet}
use Rattle.sat_engine.specs.Searches.{AllAssigned, AreFilled, IsLogged}
use Rattle.sat_engine.specs.declared.verdict.Verdict.{Verdict}
use Rattle.sat_engine.specs.declared.verdict.Verdict.TheVariants.{Sat, Refuted, Open}

-- the trail gives each variable a value, and under it each clause is quiet
pub record IsFull (formula : List Clause) (clauses : List Clause) (lines : List Line) (variables : ℕ) (t : TrailState) : Type 0 where
  pub trail : IsTrail t
  pub variables_are : t.variables ≡ variables
  pub assigned : AllAssigned t
  pub quiet : AllQuiet clauses (true_lits t.entries)
  pub filled : AreFilled clauses
  pub logged : IsLogged formula variables clauses lines

-- what the end of a search says of the formula and of the log
abbrev pub IsVerdict : List Clause → ℕ → List Clause → List Line → ℕ → TrailState → Verdict → Type 0
IsVerdict formula budget clauses lines variables t Sat = IsFull formula clauses lines variables t
IsVerdict formula budget clauses lines variables t Refuted = Refutes variables formula lines × StaysBelow budget lines
IsVerdict formula budget clauses lines variables t Open = IsProgressLog variables formula lines × Spends budget lines
