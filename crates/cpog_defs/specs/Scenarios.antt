-- Scenarios as they are written: operations, and arcs between them.
use Rattle.std.specs.Prelude.{◌≡◌, ◌≢◌, ◌↔◌, ℕ, ◌<◌, IsTrue, List, [], ◌∷◌}
use Rattle.std.specs.List.{AllPairs, Contains}
use Rattle.std.specs.FinSet as set
use Rattle.cpog_defs.specs.declared.types.OpId.{OpId}
use Rattle.cpog_defs.specs.Walks.{Walk}
use Rattle.cpog_defs.specs.Orders.{Set, Order, IsOrder, is_before, arc_of}

-- how many operations there may be, those that the scenario has, and its arcs
pub record Scenario : Type 0 where
  pub count : ℕ
  pub ops : Set
  pub arcs : List (OpId × OpId)

-- an arc from u to v is written
abbrev pub HasArc : Scenario → ℕ → ℕ → Type 0
HasArc sc u v = Contains sc.arcs (arc_of u v)

-- operations below the count, and different arcs between operations that it has
pub record IsScenario (sc : Scenario) : Type 0 where
  pub below : (v : ℕ) → IsTrue (set.contains sc.ops v) → v < sc.count
  pub first_kept : (u v : ℕ) → HasArc sc u v → IsTrue (set.contains sc.ops u)
  pub second_kept : (u v : ℕ) → HasArc sc u v → IsTrue (set.contains sc.ops v)
  pub distinct : AllPairs (λ a b. a ≢ b) sc.arcs

-- u is before v where a walk of at least one arc leads from u to v
abbrev pub IsBefore : Scenario → ℕ → ℕ → Type 0
IsBefore sc = Walk (HasArc sc)

-- v is the least operation before itself
pub record IsLeastCyclic (sc : Scenario) (v : ℕ) : Type 0 where
  pub is_cyclic : IsBefore sc v v
  pub least : (w : ℕ) → w < v → IsBefore sc w w → ⊥

-- the order of a scenario, which has no operation before itself
pub record IsOrderOfScenario (sc : Scenario) (o : Order) : Type 0 where
  pub order : IsOrder o
  pub count : o.count ≡ sc.count
  pub ops : o.ops ≡ sc.ops
  pub before : (u v : ℕ) → IsTrue (is_before o u v) ↔ IsBefore sc u v

-- one order for each scenario
abbrev pub AreOrdersOf : List Scenario → List Order → Type 0
AreOrdersOf [] [] = Unit {0}
AreOrdersOf (sc ∷ scenarios) (o ∷ orders) = IsOrderOfScenario sc o × AreOrdersOf scenarios orders
AreOrdersOf scenarios orders = ⊥
