use Rattle.sat_engine.proofs.FullLemmas.{assigned_by}
use Rattle.sat_engine.proofs.solver.assignment.Goals as goal

pub variables-preserved : goal.variables-preserved
variables-preserved c = rw c.in_ok-push.ensures.items (assigned_by c.args.trail.now c.variables.values.items c.variables.before c.is_true.result c.from_var.result c.from_var.ensures c.is_true.ensures c.variables.invariant)
