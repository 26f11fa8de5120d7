-- What the readers of formulas answer.
use Rattle.std.specs.Prelude.{◌≡◌, ℕ, ◌+◌, ◌-◌, ◌<◌, ◌≤◌, List, ◌∷◌, ◌++◌, length, Result, Ok, Err}
use Rattle.clause_arena.specs.Clauses.{Clause}
use Rattle.clause_arena.specs.declared.cnf.Cnf.{Cnf}
use Rattle.cpog_base.specs.declared.limits.TheConstants.{VARIABLE_LIMIT}
use Rattle.proof_check.specs.Lines.{Line}
use Rattle.proof_check.specs.Records.{LogState}
use Rattle.text_rows.specs.Lines.{free_lines}
use Rattle.text_rows.specs.FirstBad.{IsFirstBad}
use Rattle.dimacs_text.specs.declared.cnf.CnfFault.{CnfFault}
use Rattle.dimacs_text.specs.declared.cnf.CnfFault.TheVariants as faults
use Rattle.dimacs_text.specs.declared.log.LogFault.{LogFault}
use Rattle.dimacs_text.specs.declared.log.LogFault.TheVariants as log_faults
use Rattle.dimacs_text.specs.declared.cnf.Front.{Front}
use Rattle.dimacs_text.specs.LogTexts.{IsLogText}
use Rattle.dimacs_text.specs.Formulas.{SpellsFormula}
use Rattle.dimacs_text.specs.Texts.{IsFormulaText, SpellsJoined, IsJoinedText, IsFront}

-- the lines up to the `p` line; a bad line is the first of a formula, and of a formula with a log
abbrev pub IsFrontRead : List (List ℕ) → Result Front CnfFault → Type 0
IsFrontRead lines (Ok x) = (front : List (List ℕ)) × (line : List ℕ) × IsFront front line x.header.variables x.header.clauses × (lines ≡ front ++ line ∷ free_lines x.rest.now) × (x.lines ≡ length front + 1)
IsFrontRead lines (Err (faults.BadLine n)) = IsFirstBad IsFormulaText lines n × IsFirstBad IsJoinedText lines n
IsFrontRead lines (Err faults.Limit) = ⊥
IsFrontRead lines (Err faults.Memory) = ⊥

-- Ok is the formula that the lines spell, and no other; Limit says that they spell one of more variables; a bad line
-- is the first
abbrev pub IsCnfRead : List (List ℕ) → Result Cnf CnfFault → Type 0
IsCnfRead lines (Ok formula) = SpellsFormula lines formula.variables formula.clauses.clauses × (formula.variables ≤ VARIABLE_LIMIT)
    × ((variables : ℕ) (clauses : List Clause) → SpellsFormula lines variables clauses → (variables ≡ formula.variables) × (clauses ≡ formula.clauses.clauses))
IsCnfRead lines (Err (faults.BadLine n)) = IsFirstBad IsFormulaText lines n
IsCnfRead lines (Err faults.Limit) = (variables : ℕ) × (clauses : List Clause) × SpellsFormula lines variables clauses × (VARIABLE_LIMIT < variables)
IsCnfRead lines (Err faults.Memory) = Unit {0}

-- a fault of the log, as one of the whole text
abbrev pub fault_of : LogFault → CnfFault
fault_of (log_faults.BadLine n) = faults.BadLine n
fault_of log_faults.Memory = faults.Memory

-- what is said where the log is only judged: a bad line is its first, counted behind so many lines, and Limit says
-- that it has none
abbrev pub IsJudgedFault : ℕ → ℕ → List (List ℕ) → ℕ → CnfFault → Type 0
IsJudgedFault variables clauses lines before (faults.BadLine n) = (before ≤ n) × IsFirstBad (IsLogText variables clauses) lines (n - before)
IsJudgedFault variables clauses lines before faults.Limit = IsLogText variables clauses lines
IsJudgedFault variables clauses lines before faults.Memory = Unit {0}

-- Ok is the formula and the log that the lines spell, and no others; Limit says that they spell a formula of more
-- variables; a bad line is the first
abbrev pub IsJoinedRead : List (List ℕ) → Result (Cnf × LogState) CnfFault → Type 0
IsJoinedRead lines (Ok x) = SpellsJoined lines x.0.variables x.0.clauses.clauses x.1.lines × (x.0.variables ≤ VARIABLE_LIMIT) × (x.1.first ≡ length x.0.clauses.clauses)
    × ((variables : ℕ) (clauses : List Clause) (log : List Line) → SpellsJoined lines variables clauses log → (variables ≡ x.0.variables) × (clauses ≡ x.0.clauses.clauses) × (log ≡ x.1.lines))
IsJoinedRead lines (Err (faults.BadLine n)) = IsFirstBad IsJoinedText lines n
IsJoinedRead lines (Err faults.Limit) = (variables : ℕ) × (clauses : List Clause) × (log : List Line) × SpellsJoined lines variables clauses log × (VARIABLE_LIMIT < variables)
IsJoinedRead lines (Err faults.Memory) = Unit {0}
