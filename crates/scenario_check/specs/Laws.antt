-- What is promised of cycles.
use Rattle.std.specs.Prelude.{◌≡◌, ℕ, List}
use Rattle.cpog_defs.specs.Orders.{Order}
use Rattle.cpog_defs.specs.Scenarios.{Scenario, AreOrdersOf}
use Rattle.scenario_check.specs.Cycles.{IsFirstCyclic}

-- one scenario is the first that has an operation before itself, and one operation is its least
abbrev pub OneFirstCyclic : Type 0
OneFirstCyclic = (scenarios : List Scenario) (s t v w : ℕ) → IsFirstCyclic scenarios s v → IsFirstCyclic scenarios t w → (s ≡ t) × (v ≡ w)

-- scenarios that have orders have no first that has an operation before itself
abbrev pub CyclicOrOrders : Type 0
CyclicOrOrders = (scenarios : List Scenario) (orders : List Order) (s v : ℕ) → IsFirstCyclic scenarios s v → AreOrdersOf scenarios orders → ⊥
