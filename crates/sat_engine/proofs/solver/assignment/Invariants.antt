use Rattle.sat_engine.specs.Outcomes.{AreAssigned}
use Rattle.sat_engine.proofs.solver.assignment.Given as goal

abbrev pub invariant-variables : goal.invariant-variables
invariant-variables l = AreAssigned l.trail l.values.items l.before
