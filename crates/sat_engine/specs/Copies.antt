-- The formula's clauses in the engine's arena.
use Rattle.std.specs.Prelude.{◌≡◌, ◌⊎◌, ℕ, ◌+◌, ◌≤◌, Bool, true, false, List, length, Some, slice_get}
use Rattle.clause_arena.specs.Clauses.{Lit, opposite, Clause, In, HasEachVariableOnce}
use Rattle.clause_arena.specs.Arenas.{literals}
use Rattle.sat_engine.specs.Searches.{IsSameSet, AreSameSets, IsAttached, AreIds}
use Rattle.watch_lists.specs.Watching.{Watching}

-- l came to the literals, unless it was there
pub record CopiesOne (old new : Clause) (l : Lit) (both : Bool) : Type 0 where
  pub from : (m : Lit) → In m new → In m old ⊎ (m ≡ l)
  pub stay : (m : Lit) → In m old → In m new
  pub here : In l new
  pub few : length new ≤ length old + 1
  pub opposites : both ≡ true → In (opposite l) new
  pub once : both ≡ false → HasEachVariableOnce old → HasEachVariableOnce new

-- the same set, with each literal once; it holds a variable in both signs, or each variable once
pub record IsCopy (clause new : Clause) (both : Bool) : Type 0 where
  pub same : IsSameSet new clause
  pub few : length new ≤ length clause
  pub opposites : both ≡ true → (l : Lit) × In l new × In (opposite l) new
  pub once : both ≡ false → HasEachVariableOnce new

-- the clauses are the formula's, as sets; each is attached, or holds a variable in both signs, or one literal at most
pub record IsLoaded (formula clauses : List Clause) (w : Watching) : Type 0 where
  pub same : AreSameSets clauses formula
  pub few : literals clauses ≤ literals formula
  pub ids : AreIds w clauses
  pub covered : (k : ℕ) (c : Clause) → slice_get clauses k ≡ Some c → IsAttached w k ⊎ ((l : Lit) × In l c × In (opposite l) c) ⊎ (length c ≤ 1)
