use Rattle.std.proofs.Common.{◌≡◌, ◌∙◌, ap₂, arith, []}
use Rattle.std.specs.FinSet as set
use Rattle.order_reduce.proofs.ScenarioLemmas.{set_where, set_where-all, scenario_with}
use Rattle.order_reduce.proofs.scenarios.without_arcs.Goals as goal

pub returns-clause-scenario : goal.returns-clause-scenario
returns-clause-scenario c =
    let o = c.args.order.now in
    let at_end : c.loop-v.v ≡ o.count = omega (arith, c.count-count.ensures.count) in
    c.loop-v.invariant
    ∙ ap₂ (λ n ops. scenario_with n ops []) c.count-count.ensures.count
    (ap₂ (λ s n. set_where (set.contains s) n) c.ops-ops.ensures at_end ∙ set_where-all o.ops o.count c.count-count.ensures.order.below)
