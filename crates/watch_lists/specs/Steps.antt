-- What one node, one list and propagation leave.
use Rattle.std.specs.Prelude.{◌≡◌, ◌⊎◌, ℕ, suc, ◌+◌, ◌-◌, ◌*◌, ◌<◌, ◌≤◌, List, [], ◌∷◌, ◌++◌, length, take, Option, Some, None}
use Rattle.sat_trail.specs.Propagation.{OthersFalseIn, IsFalseIn}
use Rattle.clause_arena.specs.Clauses.{Lit, Clause, In}
use Rattle.sat_trail.specs.Trails.{Entry, TrailState, entry_at, true_lits}
use Rattle.clause_arena.specs.Arenas.{clause_at}
use Rattle.watch_lists.specs.Watched.{IsNode, IsVisiting, AreFitting, ArePendingFrom, count_left}
use Rattle.watch_lists.specs.declared.link.Link.{Link}
use Rattle.watch_lists.specs.declared.step.Step.{Step}
use Rattle.watch_lists.specs.declared.step.Step.TheVariants.{Kept, Moved, Conflict as StepConflict}
use Rattle.watch_lists.specs.declared.propagation.Propagation.{Propagation}
use Rattle.watch_lists.specs.declared.propagation.Propagation.TheVariants.{Done, Conflict}

-- the clause has its two nodes in lists
abbrev pub IsLinkedClause : ℕ → List Link → ℕ → Type 0
IsLinkedClause heads links id = IsNode heads links (heads + 2 * id)

-- on the way through the list of a, behind `before`, at this node
abbrev pub AtNode : ℕ → List Link → List Clause → TrailState → Lit → ℕ → ℕ → Type 0
AtNode heads links clauses t a before node = (lists : ℕ → List ℕ) × (done : List ℕ) × (rest : List ℕ) × IsVisiting heads links clauses t a before lists done (node ∷ rest)

-- on the way through the list of a, behind `before`
abbrev pub AtList : ℕ → List Link → List Clause → TrailState → Lit → ℕ → Type 0
AtList heads links clauses t a before = (lists : ℕ → List ℕ) × (done : List ℕ) × (rest : List ℕ) × IsVisiting heads links clauses t a before lists done rest

-- the links fit the arena and the first n entries of the trail
abbrev pub AreFit : ℕ → List Link → List Clause → TrailState → ℕ → Type 0
AreFit heads links clauses t n = (lists : ℕ → List ℕ) × AreFitting heads links clauses t n lists

-- e came from an attached clause that holds it and whose other literals are false before it
abbrev pub HasLinkedReason : ℕ → List Link → List Clause → List Entry → Entry → Type 0
HasLinkedReason heads links clauses before e = (id : ℕ) × (e.reason ≡ Some id) × IsLinkedClause heads links id × (id < length clauses) × In e.lit (clause_at clauses id) × OthersFalseIn (clause_at clauses id) (true_lits before) e.lit

-- the trail is as before, or one entry with a reason longer
abbrev pub IsSameOrMore : ℕ → List Link → List Clause → TrailState → TrailState → Type 0
IsSameOrMore heads links clauses old new = (new ≡ old) ⊎ ((e : Entry) × (new ≡ record old { entries = old.entries ++ e ∷ [] }) × (e.level ≡ old.level) × HasLinkedReason heads links clauses old.entries e)

-- the trail grew by entries of the present level, each with its reason
pub record IsExtended (heads : ℕ) (links : List Link) (clauses : List Clause) (old new : TrailState) : Type 0 where
  pub more : List Entry
  pub appended : new.entries ≡ old.entries ++ more
  pub level : new.level ≡ old.level
  pub variables : new.variables ≡ old.variables
  pub reasons : (p : ℕ) → length old.entries ≤ p → p < length new.entries → ((entry_at new.entries p).level ≡ old.level) × HasLinkedReason heads links clauses (take p new.entries) (entry_at new.entries p)

-- an attached clause is false throughout
abbrev pub IsFalseClause : ℕ → List Link → List Clause → TrailState → ℕ → Type 0
IsFalseClause heads links clauses t id = IsLinkedClause heads links id × (id < length clauses) × IsFalseIn (clause_at clauses id) (true_lits t.entries)

-- what is so after each outcome of a step; a step that goes on leaves one node less
abbrev pub IsStep : ℕ → List Link → List Clause → TrailState → Lit → ℕ → ℕ → ℕ → Step → Type 0
IsStep heads links clauses t a before node left Kept = AtList heads links clauses t a node × (suc (count_left links node) ≡ left)
IsStep heads links clauses t a before node left Moved = AtList heads links clauses t a before × (suc (count_left links before) ≡ left)
IsStep heads links clauses t a before node left (StepConflict id) = AtNode heads links clauses t a before node × IsFalseClause heads links clauses t id

-- what is so after a list
abbrev pub IsVisit : ℕ → List Link → List Clause → TrailState → Option ℕ → Type 0
IsVisit heads links clauses t None = AreFit heads links clauses t t.given × ArePendingFrom t t.given
IsVisit heads links clauses t (Some id) = AreFit heads links clauses t (t.given - 1) × (0 < t.given) × ArePendingFrom t (t.given - 1) × IsFalseClause heads links clauses t id

-- what is so after all lists
abbrev pub IsRun : ℕ → List Link → List Clause → TrailState → Propagation → Type 0
IsRun heads links clauses t Done = AreFit heads links clauses t t.given × (t.given ≡ length t.entries)
IsRun heads links clauses t (Conflict id) = AreFit heads links clauses t (t.given - 1) × (0 < t.given) × ArePendingFrom t (t.given - 1) × IsFalseClause heads links clauses t id
