use Rattle.gate_template.proofs.CountedLemmas.{template_counted}
use Rattle.gate_template.proofs.laws.template_is_counted.Goals as goal

pub returns : goal.returns
returns c = template_counted
