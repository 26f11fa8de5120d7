-- The arcs of a scenario, each written once.
use Rattle.std.specs.Prelude.{◌≡◌, ℕ, ◌≤◌, if◌then◌else◌, List, [], ◌∷◌, ◌++◌, slice_index_or}
use Rattle.std.specs.FinSet as set
use Rattle.cpog_defs.specs.declared.types.OpId.{OpId}
use Rattle.cpog_defs.specs.Orders.{Set, arc_of}
use Rattle.cpog_defs.specs.Scenarios.{Scenario, IsScenario}
pub use Rattle.cpog_base.specs.Rows.{has_arc}

-- the arcs with one more, which goes last where it is new
abbrev pub with_arc : List (OpId × OpId) → ℕ → ℕ → List (OpId × OpId)
with_arc arcs u v = if has_arc arcs u v then arcs else arcs ++ arc_of u v ∷ []

-- for each operation the set of those to which an arc leads from it
abbrev pub AreSuccessors : List (OpId × OpId) → List Set → Type 0
AreSuccessors arcs rows = (u v : ℕ) → set.contains (slice_index_or rows u set.empty) v ≡ has_arc arcs u v

-- a scenario, and the successors of its operations
pub record IsStored (sc : Scenario) (rows : List Set) : Type 0 where
  pub few : sc.count ≤ 128
  pub scenario : IsScenario sc
  pub successors : AreSuccessors sc.arcs rows
