use Rattle.std.proofs.Common.{take}
use Rattle.cpog_defs.specs.Scenarios.{AreOrdersOf}
use Rattle.scenario_check.proofs.orders.orders_of.Given as goal

abbrev pub invariant-loop-s : goal.invariant-loop-s
invariant-loop-s l = AreOrdersOf (take l.s l.scenarios) l.orders.items
