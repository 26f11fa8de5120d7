use Rattle.scenario_check.proofs.CycleLemmas as laws
use Rattle.scenario_check.proofs.laws.cyclic_or_orders.Goals as goal

pub returns : goal.returns
returns c = laws.cyclic_or_ordered
