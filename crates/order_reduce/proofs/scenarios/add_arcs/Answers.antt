use Rattle.std.proofs.Common.{refl}
use Rattle.order_reduce.proofs.ScenarioLemmas.{arc_added}
use Rattle.order_reduce.proofs.scenarios.add_arcs.Goals as goal

pub loop-u-preserved : goal.loop-u-preserved
loop-u-preserved c =
    arc_added c.args.scenario.now c.loop-u.scenario c.add_arc.new.self c.args.arcs.now c.loop-u.u-index _ _ (record { 0 = 0 }, record { 0 = 0 })
    c.requires.distinct c.loop-u-test.true refl c.loop-u.invariant c.in_ok-add_arc.ensures.ok
