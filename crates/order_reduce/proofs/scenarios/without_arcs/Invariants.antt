use Rattle.std.proofs.Common.{◌≡◌, []}
use Rattle.std.specs.FinSet as set
use Rattle.order_reduce.proofs.ScenarioLemmas.{set_where}
use Rattle.order_reduce.proofs.scenarios.without_arcs.Given as goal

abbrev pub invariant-loop-v : goal.invariant-loop-v
invariant-loop-v l = l.scenario ≡ record { count = l.count; ops = set_where (set.contains l.ops) l.v; arcs = [] }
