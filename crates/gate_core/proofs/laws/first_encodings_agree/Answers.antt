use Rattle.gate_core.proofs.OnceLemmas.{first_encodings_are_one}
use Rattle.gate_core.proofs.laws.first_encodings_agree.Goals as goal

pub returns : goal.returns
returns c = first_encodings_are_one
