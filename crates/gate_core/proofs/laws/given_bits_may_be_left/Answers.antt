use Rattle.gate_core.proofs.CodesLemmas as laws
use Rattle.gate_core.proofs.laws.given_bits_may_be_left.Goals as goal

pub returns : goal.returns
returns c = laws.given_bits_may_be_left
