-- The orders of the scenarios that a file denotes.
use Rattle.std.specs.Prelude.{◌≡◌, List, []}
use Rattle.cpog_defs.specs.Orders.{Order}
use Rattle.cpog_defs.specs.Scenarios.{Scenario, AreOrdersOf}
use Rattle.pg_text.specs.Contents.{Contents}
use Rattle.pg_normal.specs.Denoting.{AreScenariosOf}
use Rattle.pg_normal.specs.Naming.{name_faults}

-- names are in order, and these are the orders of the scenarios, none of which has an operation before itself
pub record AreOrdersIn (f : Contents) (orders : List Order) : Type 0 where
  pub named : name_faults f ≡ []
  pub scenarios : List Scenario
  pub denoted : AreScenariosOf f scenarios
  pub of_scenarios : AreOrdersOf scenarios orders
