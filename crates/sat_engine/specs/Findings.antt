-- Clauses under a trail, and what propagation keeps.
use Rattle.std.specs.Prelude.{◌≡◌, ℕ, ◌<◌, ◌≤◌, List, length, Some}
use Rattle.std.specs.List.{All}
use Rattle.clause_arena.specs.Clauses.{Lit, Clause, In}
use Rattle.sat_trail.specs.Trails.{Entry, true_lits}
use Rattle.sat_trail.specs.Propagation.{OthersFalseIn, IsQuiet}
use Rattle.clause_arena.specs.Arenas.{clause_at}

-- each literal is of a variable of the trail
abbrev pub AllWithin : List Clause → ℕ → Type 0
AllWithin clauses n = (k : ℕ) → k < length clauses → All (λ l. l.var ≤ n) (clause_at clauses k)

-- each literal is of one of so many variables
abbrev pub ClauseWithin : Clause → ℕ → Type 0
ClauseWithin c n = All (λ l. l.var ≤ n) c

-- e came from a clause that holds it and whose other literals are false before it
abbrev pub HasReason : List Clause → List Entry → Entry → Type 0
HasReason clauses before e = (id : ℕ) × (e.reason ≡ Some id) × (id < length clauses) × In e.lit (clause_at clauses id) × OthersFalseIn (clause_at clauses id) (true_lits before) e.lit

-- each clause is quiet
abbrev pub AllQuiet : List Clause → List Lit → Type 0
AllQuiet clauses T = (k : ℕ) → k < length clauses → IsQuiet (clause_at clauses k) T
