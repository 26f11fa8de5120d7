use Rattle.cpog_merge.proofs.TakenLemmas.{set_is_evidence}
use Rattle.cpog_merge.proofs.laws.incompatible_sets_are_evidence.Goals as goal

pub returns : goal.returns
returns c = set_is_evidence
