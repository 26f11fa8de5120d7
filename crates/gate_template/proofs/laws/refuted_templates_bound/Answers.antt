use Rattle.gate_template.proofs.RefutedLemmas.{refuted_bounds}
use Rattle.gate_template.proofs.laws.refuted_templates_bound.Goals as goal

pub returns : goal.returns
returns c = refuted_bounds
