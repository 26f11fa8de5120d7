use Rattle.cpog_merge.proofs.AgreeLemmas.{classes_are_one_lem}
use Rattle.cpog_merge.proofs.laws.classes_are_one.Goals as goal

pub returns : goal.returns
returns c = classes_are_one_lem
