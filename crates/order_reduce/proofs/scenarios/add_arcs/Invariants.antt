use Rattle.std.proofs.Common.{◌≡◌, take}
use Rattle.order_reduce.proofs.ScenarioLemmas.{scenario_with}
use Rattle.order_reduce.proofs.scenarios.add_arcs.Given as goal

abbrev pub invariant-loop-u : goal.invariant-loop-u
invariant-loop-u l = l.scenario ≡ scenario_with l.fn.scenario.count l.fn.scenario.ops (take l.u-index l.arcs)
