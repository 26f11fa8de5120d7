use Rattle.cpog_base.proofs.ArcLemmas.{stored_new}
use Rattle.cpog_base.proofs.scenario.Scenario.new.Goals as goal

pub invariant_of-result : goal.invariant_of-result
invariant_of-result c = rw (c.empty.ensures, c.new.ensures, c.new-2.ensures) (stored_new c.args.count c.requires)
