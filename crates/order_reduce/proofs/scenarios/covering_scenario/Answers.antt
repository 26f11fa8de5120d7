use Rattle.std.proofs.Common.{◌∙◌, ap}
use Rattle.cpog_defs.specs.Scenarios.{Scenario}
use Rattle.cpog_defs.specs.Orders.{Order, IsOrder}
use Rattle.order_reduce.proofs.ScenarioLemmas.{covering_distinct, kept_in}
use Rattle.order_reduce.proofs.scenarios.covering_scenario.Goals as goal

pub add_arcs-requires-clause-distinct : goal.add_arcs-requires-clause-distinct
add_arcs-requires-clause-distinct c = rw (c.deref.ensures.value, c.in_ok-pairs.ensures.pairs) (covering_distinct c.args.order.now)

pub add_arcs-requires-clause-ends : goal.add_arcs-requires-clause-ends
add_arcs-requires-clause-ends c =
    let ord : IsOrder c.args.order.now = rw c.as_order.ensures at c.without_arcs-scenario.ensures.order in
    kept_in c.args.order.now ord c.without_arcs-scenario.result.ops c.deref.result.now
    (ap (λ (s : Scenario). s.ops) c.without_arcs-scenario.ensures.scenario ∙ ap (λ (o : Order). o.ops) c.as_order.ensures) (c.deref.ensures.value ∙ c.in_ok-pairs.ensures.pairs)
