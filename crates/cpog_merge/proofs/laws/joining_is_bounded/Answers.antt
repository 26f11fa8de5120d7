use Rattle.cpog_merge.proofs.SmallerLemmas.{joining_lem}
use Rattle.cpog_merge.proofs.laws.joining_is_bounded.Goals as goal

pub returns : goal.returns
returns c = λ orders t list alike few short are classes. joining_lem orders t list alike few are classes short
