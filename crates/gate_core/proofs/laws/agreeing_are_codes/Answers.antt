use Rattle.gate_core.proofs.CodesLemmas as laws
use Rattle.gate_core.proofs.laws.agreeing_are_codes.Goals as goal

pub returns : goal.returns
returns c = laws.agreeing_are_codes
