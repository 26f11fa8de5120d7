use Rattle.std.proofs.Common.{◌≡◌, map, take}
use Rattle.order_reduce.specs.Scenarios.{covering_scenario}
use Rattle.graph_answers.proofs.synthesis.covering_scenarios.Given as goal

abbrev pub invariant-loop-order : goal.invariant-loop-order
invariant-loop-order l = l.scenarios.items ≡ map covering_scenario (take l.order-index l.orders)
