use Rattle.gate_template.proofs.CountedLemmas.{variables_few}
use Rattle.gate_template.proofs.laws.variables_are_few.Goals as goal

pub returns : goal.returns
returns c = variables_few
