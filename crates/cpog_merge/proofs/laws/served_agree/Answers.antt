use Rattle.cpog_merge.proofs.AgreeLemmas.{served_agree_lem}
use Rattle.cpog_merge.proofs.laws.served_agree.Goals as goal

pub returns : goal.returns
returns c = served_agree_lem
