-- The scenario that is printed of an order: its arcs are the covering pairs.
use Rattle.cpog_defs.specs.Orders.{Order, covering_pairs}
use Rattle.cpog_defs.specs.Scenarios.{Scenario}

-- a scenario whose arcs are the covering pairs of its order
abbrev pub covering_scenario : Order → Scenario
covering_scenario o = record { count = o.count; ops = o.ops; arcs = covering_pairs o }
