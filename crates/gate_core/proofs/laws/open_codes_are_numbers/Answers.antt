use Rattle.gate_core.proofs.CodesLemmas as laws
use Rattle.gate_core.proofs.laws.open_codes_are_numbers.Goals as goal

pub returns : goal.returns
returns c = laws.open_codes_are_numbers
