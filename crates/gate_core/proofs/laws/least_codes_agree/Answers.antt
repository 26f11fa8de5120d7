use Rattle.gate_core.proofs.CodesLemmas as laws
use Rattle.gate_core.proofs.laws.least_codes_agree.Goals as goal

pub returns : goal.returns
returns c = laws.least_codes_agree
