-- What the search keeps between its conflicts.
use Rattle.std.specs.Prelude.{◌≡◌, ◌≢◌, ◌⊎◌, ℕ, suc, ◌+◌, ◌<◌, ◌≤◌, ◌^◌, List, [], ◌++◌, length, take, Some, None, IsSome, slice_get}
use Rattle.proof_check.specs.Records.{LogState}
use Rattle.sat_engine.specs.Steps.{IsWithin}
use Rattle.proof_check.specs.Progress.{IsProgressLog}
use Rattle.proof_check.specs.Lines.{Line, numbers, last_id}
use Rattle.clause_arena.specs.Clauses.{Lit, opposite, Clause, In}
use Rattle.clause_arena.specs.Arenas.{literals}
use Rattle.sat_trail.specs.Trails.{Entry, TrailState, entry_at, IsTrail, IsAt, IsTrueBy, IsAssigned}
use Rattle.sat_engine.specs.Steps.{added, CountsFrom}
use Rattle.sat_engine.specs.Findings.{HasReason}
use Rattle.watch_lists.specs.Watching.{Watching, listed, ArePending}

-- the two clauses have the same literals
abbrev pub IsSameSet : Clause → Clause → Type 0
IsSameSet c d = (l : Lit) → (In l c → In l d) × (In l d → In l c)

-- as many clauses, and each the same set
abbrev pub AreSameSets : List Clause → List Clause → Type 0
AreSameSets clauses known = (length clauses ≡ length known) × ((k : ℕ) (c d : Clause) → slice_get clauses k ≡ Some c → slice_get known k ≡ Some d → IsSameSet c d)

-- none is empty
abbrev pub AreFilled : List Clause → Type 0
AreFilled clauses = (k : ℕ) (c : Clause) → slice_get clauses k ≡ Some c → c ≢ []

-- at each level below this one, propagation was complete
abbrev pub AreQuietBelow : List Clause → List Entry → ℕ → Type 0
AreQuietBelow clauses entries level = (j : ℕ) → j < level → (k : ℕ) (c : Clause) → slice_get clauses k ≡ Some c → (l : Lit) → In l c → ((m : Lit) → In m c → m ≢ l → IsTrueBy entries j (opposite m)) → IsTrueBy entries j l

-- each entry has its reason or is the first of its level, which isn't level 0
abbrev pub AreExplained : List Clause → List Entry → Type 0
AreExplained clauses entries = (p : ℕ) → p < length entries → HasReason clauses (take p entries) (entry_at entries p) ⊎ (((entry_at entries p).reason ≡ None) × (0 < (entry_at entries p).level) × ((q : ℕ) → q < p → (entry_at entries q).level < (entry_at entries p).level))

-- clause k is attached
abbrev pub IsAttached : Watching → ℕ → Type 0
IsAttached w k = IsSome (listed w k)

-- each attached one is the number of a clause
abbrev pub AreIds : Watching → List Clause → Type 0
AreIds w clauses = (k : ℕ) → IsAttached w k → k < length clauses

-- a clause that isn't attached holds a literal in both signs, or one that is true at level 0
abbrev pub IsWatchedOrTrue : Watching → List Entry → ℕ → Clause → Type 0
IsWatchedOrTrue w entries k c = IsAttached w k ⊎ ((l : Lit) × In l c × In (opposite l) c) ⊎ ((l : Lit) × In l c × IsTrueBy entries 0 l)

-- what the search keeps of its clauses and the trail
pub record IsSearching (clauses : List Clause) (t : TrailState) : Type 0 where
  pub trail : IsTrail t
  pub filled : AreFilled clauses
  pub within : IsWithin clauses t.variables
  pub quiet : AreQuietBelow clauses t.entries t.level
  pub explained : AreExplained clauses t.entries
  pub pending : ArePending t

-- only clauses are attached, and the others needn't be
pub record AreListed (clauses : List Clause) (w : Watching) (t : TrailState) : Type 0 where
  pub ids : AreIds w clauses
  pub covered : (k : ℕ) (c : Clause) → slice_get clauses k ≡ Some c → IsWatchedOrTrue w t.entries k c

-- the clauses are those of the formula and of a progress log, as sets
pub record IsLogged (formula : List Clause) (variables : ℕ) (clauses : List Clause) (lines : List Line) : Type 0 where
  pub same : AreSameSets clauses (formula ++ added lines)
  pub counts : CountsFrom (suc (length formula)) lines
  pub progress : IsProgressLog variables formula lines

-- the variable of l has its value at this level
abbrev pub IsOfLevel : TrailState → ℕ → Lit → Type 0
IsOfLevel t level l = (q : ℕ) → q < length t.entries → (entry_at t.entries q).lit.var ≡ l.var → (entry_at t.entries q).level ≡ level

-- the sizes stay below what the numbers of places can count, and the last id is that of the last clause
pub record IsSized (variables : ℕ) (clauses : List Clause) (log : LogState) : Type 0 where
  pub variables_few : variables ≤ 2 ^ 24
  pub numbers_few : numbers log.lines < 2 ^ 23
  pub clauses_few : literals clauses + length clauses ≤ 2 ^ 28 + numbers log.lines
  pub last : last_id log.first log.lines ≡ length clauses

-- the level to go back to: that of the line's highest literal but x, or 0
pub record IsJump (t : TrailState) (x : Lit) (lits : List Lit) (jump : ℕ) : Type 0 where
  pub high : (m : Lit) → In m lits → m ≢ x → (q : ℕ) × IsAt t.entries q (opposite m) × ((entry_at t.entries q).level ≤ jump)
  pub some : (jump ≡ 0) ⊎ ((b : Lit) × In b lits × (b ≢ x) × (q : ℕ) × IsAt t.entries q (opposite b) × ((entry_at t.entries q).level ≡ jump))
  pub below : jump < t.level

-- every variable has a value
abbrev pub AllAssigned : TrailState → Type 0
AllAssigned t = (var : ℕ) → 0 < var → var ≤ t.variables → IsAssigned t.entries var
