-- Watches as callers see them, and when they fit an arena and a trail.
use Rattle.std.specs.Prelude.{◌≡◌, ℕ, zero, suc, ◌+◌, ◌-◌, ◌*◌, ◌/◌, ◌<◌, ◌≤◌, ◌^◌, List, [], ◌∷◌, ◌++◌, length, take, Option, Some, None, IsSome, is_some, slice_index_or}
use Rattle.sat_trail.specs.Propagation.{OthersFalseIn, IsFalseIn, IsQuiet}
use Rattle.clause_arena.specs.Clauses.{Lit, opposite, Clause, In}
use Rattle.sat_trail.specs.Trails.{Entry, TrailState, entry_at, true_lits, lit_at, IsTrueBy}
use Rattle.clause_arena.specs.Arenas.{clause_at}
use Rattle.watch_lists.specs.Chains.{AreLists}
use Rattle.watch_lists.specs.Watched.{next_at, other_at, own_code, sibling, IsNode, IsListed, AreWithin, AreOfDifferentVariables, IsCovered, ArePendingFrom}
use Rattle.watch_lists.specs.declared.link.Link.{Link}
use Rattle.watch_lists.specs.declared.propagation.Propagation.{Propagation}
use Rattle.watch_lists.specs.declared.propagation.Propagation.TheVariants.{Done, Conflict}

-- the number of variables, and for each place the two literals under which its clause is listed, where it is attached
pub record Watching : Type 0 where
  pub variables : ℕ
  pub pairs : List (Option (Lit × Lit))

-- the literals under which clause k is listed, where it is attached
abbrev pub listed : Watching → ℕ → Option (Lit × Lit)
listed w k = slice_index_or w.pairs k None

-- how many places are reserved
abbrev pub reserved : Watching → ℕ
reserved w = length w.pairs

-- none where the link says that the node stands in no list
abbrev pub pair_of : ℕ → Lit → Lit → Option (Lit × Lit)
pair_of zero x y = Some (x, y)
pair_of (suc zero) x y = None
pair_of (suc (suc n)) x y = Some (x, y)

-- the pair of a place
abbrev pub pair_at : ℕ → List Link → ℕ → Option (Lit × Lit)
pair_at heads links k = pair_of (next_at links (heads + 2 * k)) (other_at links (heads + 2 * k + 1)) (other_at links (heads + 2 * k))

-- the pairs of so many places from k on
abbrev pub pairs_from : ℕ → List Link → ℕ → ℕ → List (Option (Lit × Lit))
pairs_from heads links zero k = []
pairs_from heads links (suc r) k = pair_at heads links k ∷ pairs_from heads links r (k + 1)

-- the watches that the links stand for
unfoldable pub view_of : ℕ → List Link → Watching
view_of heads links = record { variables = heads / 2 - 1; pairs = pairs_from heads links ((length links - heads) / 2) 0 }

-- what the links keep by themselves
pub record AreKept (heads : ℕ) (links : List Link) : Type 0 where
  pub even : (v : ℕ) × (heads ≡ 2 * v + 2)
  pub whole : (r : ℕ) × (length links ≡ heads + 2 * r)
  pub few : length links < 2 ^ 32
  pub paired : (m : ℕ) → IsNode heads links m → IsListed links (sibling m)
  pub lists : (lists : ℕ → List ℕ) × AreLists heads (length links) (next_at links) (own_code links) lists

-- each attached clause has different variables and is listed under its first two literals, which cover each other
pub record IsFit (w : Watching) (clauses : List Clause) (t : TrailState) : Type 0 where
  pub variables : w.variables ≡ t.variables
  pub within : AreWithin clauses t.variables
  pub listing : (k : ℕ) (x y : Lit) → listed w k ≡ Some (x, y) → (k < length clauses) × (2 ≤ length (clause_at clauses k)) × (lit_at (clause_at clauses k) 0 ≡ x) × (lit_at (clause_at clauses k) 1 ≡ y)
  pub apart : (k : ℕ) (x y : Lit) → listed w k ≡ Some (x, y) → AreOfDifferentVariables (clause_at clauses k)
  pub cover : (k : ℕ) (x y : Lit) → listed w k ≡ Some (x, y) → IsCovered t.entries t.given x y × IsCovered t.entries t.given y x

-- where x is false at a level below this one, y is true at a level that isn't higher
abbrev pub IsCoveredBelow : List Entry → ℕ → Lit → Lit → Type 0
IsCoveredBelow entries level x y = (p : ℕ) → p < length entries → (entry_at entries p).lit ≡ opposite x → (entry_at entries p).level < level → IsTrueBy entries (entry_at entries p).level y

-- the same, but for literals that became false at this level or above
pub record IsFitBelow (w : Watching) (clauses : List Clause) (t : TrailState) (level : ℕ) : Type 0 where
  pub variables : w.variables ≡ t.variables
  pub within : AreWithin clauses t.variables
  pub listing : (k : ℕ) (x y : Lit) → listed w k ≡ Some (x, y) → (k < length clauses) × (2 ≤ length (clause_at clauses k)) × (lit_at (clause_at clauses k) 0 ≡ x) × (lit_at (clause_at clauses k) 1 ≡ y)
  pub apart : (k : ℕ) (x y : Lit) → listed w k ≡ Some (x, y) → AreOfDifferentVariables (clause_at clauses k)
  pub cover : (k : ℕ) (x y : Lit) → listed w k ≡ Some (x, y) → IsCoveredBelow t.entries level x y × IsCoveredBelow t.entries level y x

-- every literal that was not given out is of the present level
abbrev pub ArePending : TrailState → Type 0
ArePending t = ArePendingFrom t t.given

-- the same clauses are attached, and as many places are there
pub record AreSameAttached (old new : Watching) : Type 0 where
  pub variables : new.variables ≡ old.variables
  pub places : reserved new ≡ reserved old
  pub attached : (k : ℕ) → is_some (listed new k) ≡ is_some (listed old k)

-- e came from an attached clause that holds it and whose other literals are false before it
abbrev pub HasWatchedReason : Watching → List Clause → List Entry → Entry → Type 0
HasWatchedReason w clauses before e = (id : ℕ) × (e.reason ≡ Some id) × IsSome (listed w id) × (id < length clauses) × In e.lit (clause_at clauses id) × OthersFalseIn (clause_at clauses id) (true_lits before) e.lit

-- the trail grew by entries of the present level, each with its reason
pub record IsGrown (w : Watching) (clauses : List Clause) (old new : TrailState) : Type 0 where
  pub more : List Entry
  pub appended : new.entries ≡ old.entries ++ more
  pub level : new.level ≡ old.level
  pub variables : new.variables ≡ old.variables
  pub given : old.given ≤ new.given
  pub reasons : (p : ℕ) → length old.entries ≤ p → p < length new.entries → ((entry_at new.entries p).level ≡ old.level) × HasWatchedReason w clauses (take p new.entries) (entry_at new.entries p)

-- done: every attached clause is quiet and every literal was given out; conflict: an attached clause is false throughout
abbrev pub IsOutcome : Watching → List Clause → TrailState → Propagation → Type 0
IsOutcome w clauses t Done = IsFit w clauses t × (t.given ≡ length t.entries) × ((k : ℕ) → IsSome (listed w k) → IsQuiet (clause_at clauses k) (true_lits t.entries))
IsOutcome w clauses t (Conflict id) = IsFitBelow w clauses t t.level × ArePending t × IsSome (listed w id) × (id < length clauses) × IsFalseIn (clause_at clauses id) (true_lits t.entries)
