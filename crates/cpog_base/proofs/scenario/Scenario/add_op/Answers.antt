use Rattle.cpog_base.proofs.ArcLemmas.{stored_op}
use Rattle.cpog_base.proofs.scenario.Scenario.add_op.Goals as goal

pub invariant_of-self : goal.invariant_of-self
invariant_of-self c = rw c.insert.ensures (stored_op (record { count = c.self.inside.count; ops = c.self.inside.ops; arcs = c.self.inside.arcs }) c.self.inside.successors c.args.v.0 (rw (← c.self.view_is) at c.requires) c.self.invariant)
