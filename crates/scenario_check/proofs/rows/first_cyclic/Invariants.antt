use Rattle.scenario_check.specs.Rows.{NoneBelow}
use Rattle.scenario_check.proofs.rows.first_cyclic.Given as goal

abbrev pub invariant-loop-v : goal.invariant-loop-v
invariant-loop-v l = NoneBelow l.rows l.v
