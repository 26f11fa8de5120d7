use Rattle.cpog_merge.proofs.AgreeLemmas.{references_stay_lem}
use Rattle.cpog_merge.proofs.laws.references_stay.Goals as goal

pub returns : goal.returns
returns c = references_stay_lem
