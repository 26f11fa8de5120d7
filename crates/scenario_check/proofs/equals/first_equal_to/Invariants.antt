use Rattle.scenario_check.specs.Equals.{NoneEqualBelow}
use Rattle.scenario_check.proofs.equals.first_equal_to.Given as goal

abbrev pub invariant-loop-s : goal.invariant-loop-s
invariant-loop-s l = NoneEqualBelow l.orders l.order l.s
