-- What the reader of a log answers.
use Rattle.std.specs.Prelude.{◌≡◌, ℕ, ◌-◌, ◌≤◌, List, [], ◌∷◌, ◌++◌, Result, Ok, Err}
use Rattle.proof_check.specs.Lines.{Line}
use Rattle.proof_check.specs.Records.{LogState}
use Rattle.dimacs_text.specs.declared.log.LogFault.{LogFault}
use Rattle.dimacs_text.specs.declared.log.LogFault.TheVariants as faults
use Rattle.text_rows.specs.Words.{tokens}
use Rattle.dimacs_text.specs.Logs.{SpellsLine, SpellsIf, SpellsLog, is_passed, id_after}
use Rattle.text_rows.specs.FirstBad.{IsFirstBad}

-- the line is passed over, or gives one more line of the log
abbrev pub StepTo : ℕ → ℕ → List ℕ → List Line → List Line → ℕ → Type 0
StepTo variables last line old new next = SpellsIf (is_passed line) ((new ≡ old) × (next ≡ last))
    ((e : Line) × SpellsLine variables last e (tokens line) × (new ≡ old ++ e ∷ []) × (next ≡ id_after last e))

-- it is neither
abbrev pub StepBad : ℕ → ℕ → List ℕ → Type 0
StepBad variables last line = SpellsIf (is_passed line) ⊥ ((e : Line) → SpellsLine variables last e (tokens line) → ⊥)

-- the lines spell some log
abbrev pub IsLogText : ℕ → ℕ → List (List ℕ) → Type 0
IsLogText variables clauses lines = (log : List Line) × SpellsLog variables clauses lines log

-- Ok is the log that the lines spell, and no other; a bad line is the first, counted behind so many lines
abbrev pub IsLogRead : ℕ → ℕ → List (List ℕ) → ℕ → Result LogState LogFault → Type 0
IsLogRead variables clauses lines before (Ok log) = SpellsLog variables clauses lines log.lines × (log.first ≡ clauses) × ((other : List Line) → SpellsLog variables clauses lines other → other ≡ log.lines)
IsLogRead variables clauses lines before (Err (faults.BadLine n)) = (before ≤ n) × IsFirstBad (IsLogText variables clauses) lines (n - before)
IsLogRead variables clauses lines before (Err faults.Memory) = Unit {0}

-- the same of a log that is not kept
abbrev pub IsLogJudged : ℕ → ℕ → List (List ℕ) → ℕ → Result (Unit {0}) LogFault → Type 0
IsLogJudged variables clauses lines before (Ok x) = IsLogText variables clauses lines
IsLogJudged variables clauses lines before (Err (faults.BadLine n)) = (before ≤ n) × IsFirstBad (IsLogText variables clauses) lines (n - before)
IsLogJudged variables clauses lines before (Err faults.Memory) = Unit {0}
