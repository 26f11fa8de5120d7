use Rattle.scenario_check.proofs.CycleLemmas as laws
use Rattle.scenario_check.proofs.laws.one_first_cyclic.Goals as goal

pub returns : goal.returns
returns c = laws.one_first
