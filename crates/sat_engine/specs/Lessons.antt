-- A lesson: the first point of implication below a conflict, and what its search keeps.
use Rattle.std.specs.Prelude.{◌≡◌, ◌≢◌, ◌⊎◌, ℕ, zero, suc, ◌+◌, ◌-◌, ◌<◌, ◌≤◌, Bool, true, false, if◌then◌else◌, ◌&&◌, ◌==◌, List, [], ◌∷◌, reverse, length, Some, slice_get, slice_index_or}
use Rattle.proof_check.specs.Following.{Live, HintsLead}
use Rattle.clause_arena.specs.Clauses.{Lit, opposite, Clause, In, HasEachVariableOnce}
use Rattle.sat_trail.specs.Trails.{IsAt, Entry, TrailState, entry_at, IsAssigned}
use Rattle.sat_engine.specs.Steps.{CutLeads}

-- whether a variable is seen
abbrev pub flag : List Bool → ℕ → Bool
flag seen var = slice_index_or seen (var - 1) false

-- the variable of the literal at place q is seen
abbrev pub SeenAt : List Entry → List Bool → ℕ → Type 0
SeenAt entries seen q = flag seen (entry_at entries q).lit.var ≡ true

-- the literal is true
abbrev pub IsTrueLit : List Entry → Lit → Type 0
IsTrueLit entries l = (q : ℕ) × IsAt entries q l

-- a false literal whose variable is seen
abbrev pub IsCut : List Entry → List Bool → Lit → Type 0
IsCut entries seen m = (q : ℕ) × IsAt entries q (opposite m) × SeenAt entries seen q

-- m is false at a level above 0 and below k
abbrev pub IsFalseBetween : List Entry → ℕ → Lit → Type 0
IsFalseBetween entries k m = (q : ℕ) × IsAt entries q (opposite m) × (0 < (entry_at entries q).level) × ((entry_at entries q).level < k)

-- no variable is seen
abbrev pub IsClear : List Bool → Type 0
IsClear seen = (v : ℕ) → 0 < v → flag seen v ≡ false

-- the live clauses are these, as sets, from id 1 on
abbrev pub LiveAre : Live → List Clause → Type 0
LiveAre live clauses = (k : ℕ) (c : Clause) → slice_get clauses k ≡ Some c → (d : Clause) × (live (suc k) ≡ Some d) × ((l : Lit) → (In l c → In l d) × (In l d → In l c))

-- a clause that the hints show: x is its one literal of the present level, and the others are of levels between
pub record IsLesson (clauses : List Clause) (t : TrailState) (x : Lit) (lits : List Lit) (hints : List ℕ) : Type 0 where
  pub leads : (live : Live) → LiveAre live clauses → HintsLead live lits hints
  pub holds : In x lits
  pub asserting : (q : ℕ) × IsAt t.entries q (opposite x) × ((entry_at t.entries q).level ≡ t.level)
  pub lower : (m : Lit) → In m lits → m ≢ x → IsFalseBetween t.entries t.level m
  pub once : HasEachVariableOnce lits

-- the hints show that the clauses can't all be true
abbrev pub AreRefuting : List Clause → List ℕ → Type 0
AreRefuting clauses hints = (live : Live) → LiveAre live clauses → HintsLead live [] hints

-- the others are the seen literals of levels above 0 and below the present one
pub record Gathers (t : TrailState) (seen : List Bool) (others : List Lit) : Type 0 where
  pub lower : (m : Lit) → In m others → (q : ℕ) × IsAt t.entries q (opposite m) × (0 < (entry_at t.entries q).level) × ((entry_at t.entries q).level < t.level) × SeenAt t.entries seen q
  pub gathered : (q : ℕ) → q < length t.entries → 0 < (entry_at t.entries q).level → (entry_at t.entries q).level < t.level → SeenAt t.entries seen q → In (opposite (entry_at t.entries q).lit) others
  pub once : HasEachVariableOnce others

-- the hints lead from all that is seen; what was resolved isn't seen, and stands at z or later, or above level 0 at p or later
pub record Analysing (clauses : List Clause) (t : TrailState) (seen : List Bool) (p z : ℕ) (others : List Lit) (hints : List ℕ) : Type 0 where
  pub resolved : List Lit
  pub gone : (r : Lit) → In r resolved → (q : ℕ) × IsAt t.entries q r × (SeenAt t.entries seen q → ⊥) × ((entry_at t.entries q).level ≡ 0 → z ≤ q) × (0 < (entry_at t.entries q).level → p ≤ q)
  pub leads : (live : Live) → LiveAre live clauses → CutLeads live (IsTrueLit t.entries) (IsCut t.entries seen) resolved hints
  pub head : (k : ℕ) × (rest : List ℕ) × (hints ≡ k ∷ rest)
  pub zeros : (q : ℕ) → z ≤ q → q < length t.entries → (entry_at t.entries q).level ≡ 0 → SeenAt t.entries seen q → ⊥
  pub gathers : Gathers t seen others
  pub owned : (v : ℕ) → 0 < v → flag seen v ≡ true → IsAssigned t.entries v
  pub fits : length seen ≡ t.variables

-- r at place p is the reason clause's one literal that isn't false before it
pub record IsReason (clauses : List Clause) (entries : List Entry) (p id : ℕ) (c : Clause) : Type 0 where
  pub clause : slice_get clauses id ≡ Some c
  pub holds : In (entry_at entries p).lit c
  pub others : (m : Lit) → In m c → m ≢ (entry_at entries p).lit → (q : ℕ) × IsAt entries q (opposite m) × (q < p)

-- place p is taken from the seen ones, and the other literals of c come to them
pub record IsMarked (entries : List Entry) (seen new : List Bool) (p : ℕ) (c : Clause) : Type 0 where
  pub from : (q : ℕ) → q < length entries → SeenAt entries new q → ((q ≢ p) × SeenAt entries seen q) ⊎ ((m : Lit) × In m c × (m ≢ (entry_at entries p).lit) × ((entry_at entries q).lit ≡ opposite m))
  pub stay : (q : ℕ) → q < length entries → q ≢ p → SeenAt entries seen q → SeenAt entries new q
  pub come : (q : ℕ) (m : Lit) → q < length entries → In m c → m ≢ (entry_at entries p).lit → (entry_at entries q).lit ≡ opposite m → SeenAt entries new q

-- how many of the first n entries are of this level and seen
abbrev pub open_below : List Entry → List Bool → ℕ → ℕ → ℕ
open_below entries seen level zero = 0
open_below entries seen level (suc n) = (if ((entry_at entries n).level == level) && flag seen (entry_at entries n).lit.var then 1 else 0) + open_below entries seen level n

-- x came to the seen ones, where it is false
pub record MarksOne (t : TrailState) (seen new : List Bool) (others more : List Lit) (x : Lit) (n : ℕ) : Type 0 where
  pub same_length : length new ≡ length seen
  pub few : n ≤ 1
  pub from : (q : ℕ) → q < length t.entries → SeenAt t.entries new q → SeenAt t.entries seen q ⊎ ((entry_at t.entries q).lit ≡ opposite x)
  pub stay : (q : ℕ) → q < length t.entries → SeenAt t.entries seen q → SeenAt t.entries new q
  pub come : (q : ℕ) → q < length t.entries → (entry_at t.entries q).lit ≡ opposite x → SeenAt t.entries new q
  pub owned : (v : ℕ) → 0 < v → flag new v ≡ true → (flag seen v ≡ true) ⊎ IsAssigned t.entries v
  pub gathers : Gathers t new more
  pub count : open_below t.entries new t.level (length t.entries) ≡ open_below t.entries seen t.level (length t.entries) + n

-- the false literals of c came to the seen ones
pub record MarksAll (t : TrailState) (seen new : List Bool) (more : List Lit) (c : Clause) (n : ℕ) : Type 0 where
  pub same_length : length new ≡ length seen
  pub few : n ≤ length c
  pub from : (q : ℕ) → q < length t.entries → SeenAt t.entries new q → SeenAt t.entries seen q ⊎ ((m : Lit) × In m c × ((entry_at t.entries q).lit ≡ opposite m))
  pub stay : (q : ℕ) → q < length t.entries → SeenAt t.entries seen q → SeenAt t.entries new q
  pub come : (q : ℕ) (m : Lit) → q < length t.entries → In m c → (entry_at t.entries q).lit ≡ opposite m → SeenAt t.entries new q
  pub owned : (v : ℕ) → 0 < v → flag new v ≡ true → (flag seen v ≡ true) ⊎ IsAssigned t.entries v
  pub gathers : Gathers t new more
  pub count : open_below t.entries new t.level (length t.entries) ≡ open_below t.entries seen t.level (length t.entries) + n

-- what the walk down the present level keeps: so many of its literals are seen, all before p
pub record Walking (clauses : List Clause) (t : TrailState) (seen : List Bool) (p count : ℕ) (others : List Lit) (hints : List ℕ) : Type 0 where
  pub analysing : Analysing clauses t seen p (length t.entries) others (reverse hints)
  pub before : (q : ℕ) → p ≤ q → q < length t.entries → (entry_at t.entries q).level ≡ t.level → SeenAt t.entries seen q → ⊥
  pub counted : open_below t.entries seen t.level (length t.entries) ≡ count
  pub some : 1 ≤ count
  pub within : p ≤ length t.entries

-- one seen literal of the present level is left, at place r
pub record IsPoint (t : TrailState) (seen : List Bool) (r : ℕ) (x : Lit) : Type 0 where
  pub at : IsAt t.entries r (opposite x)
  pub level : (entry_at t.entries r).level ≡ t.level
  pub here : SeenAt t.entries seen r
  pub alone : (q : ℕ) → q < length t.entries → (entry_at t.entries q).level ≡ t.level → SeenAt t.entries seen q → q ≡ r

-- c holds the opposite of a literal of the present level
abbrev pub Touches : TrailState → Clause → Type 0
Touches t c = (q : ℕ) × (q < length t.entries) × ((entry_at t.entries q).level ≡ t.level) × In (opposite (entry_at t.entries q).lit) c

-- what is still seen was seen before, and is no variable of these literals
abbrev pub IsUnmarked : List Bool → List Bool → List Lit → Type 0
IsUnmarked old new lits = (v : ℕ) → 0 < v → flag new v ≡ true → (flag old v ≡ true) × ((m : Lit) → In m lits → m.var ≢ v)

-- above level 0 the same ones are seen
abbrev pub IsSameAbove : TrailState → List Bool → List Bool → Type 0
IsSameAbove t seen new = (q : ℕ) → q < length t.entries → 0 < (entry_at t.entries q).level → (SeenAt t.entries new q → SeenAt t.entries seen q) × (SeenAt t.entries seen q → SeenAt t.entries new q)
