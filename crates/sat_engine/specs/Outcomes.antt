-- What each outcome says of the formula.
use Rattle.std.specs.Prelude.{◌≡◌, ℕ, ◌+◌, ◌*◌, ◌^◌, ◌<◌, ◌≤◌, Bool, true, false, List, length}
use Rattle.proof_check.specs.Following.{Refutes}
use Rattle.proof_check.specs.Progress.{IsProgressLog, StaysBelow, Spends}
use Rattle.clause_arena.specs.Clauses.{by_place, Clause, In, Satisfies}
use Rattle.sat_trail.specs.Trails.{TrailState, true_lits}
use Rattle.sat_engine.specs.declared.outcome.Outcome.{Outcome}
use Rattle.sat_engine.specs.declared.outcome.Outcome.TheVariants.{Sat, Refuted, Open}

-- an assignment of all variables that satisfies the formula, a log that refutes it, or a progress log that spends the budget
abbrev pub IsOutcomeOf : ℕ → List Clause → ℕ → Outcome → Type 0
IsOutcomeOf variables formula budget (Sat values) = (length values.items ≡ variables) × Satisfies (by_place values.items) formula
IsOutcomeOf variables formula budget (Refuted log) = (log.first ≡ length formula) × Refutes variables formula log.lines × StaysBelow budget log.lines
IsOutcomeOf variables formula budget (Open log) = (log.first ≡ length formula) × IsProgressLog variables formula log.lines × Spends budget log.lines × (budget ≤ 3 ^ variables * (2 * variables + 1))

-- the values of the first n variables are those of the trail
pub record AreAssigned (t : TrailState) (values : List Bool) (n : ℕ) : Type 0 where
  pub fits : length values ≡ n
  pub when_true : (v : ℕ) → 0 < v → v ≤ n → by_place values v ≡ true → In (record { var = v; negated = false }) (true_lits t.entries)
  pub when_false : (v : ℕ) → 0 < v → v ≤ n → by_place values v ≡ false → In (record { var = v; negated = false }) (true_lits t.entries) → ⊥
