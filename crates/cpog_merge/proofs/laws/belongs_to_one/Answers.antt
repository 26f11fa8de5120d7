use Rattle.cpog_merge.proofs.AgreeLemmas.{belongs_to_one_lem}
use Rattle.cpog_merge.proofs.laws.belongs_to_one.Goals as goal

pub returns : goal.returns
returns c = belongs_to_one_lem
