use Rattle.cpog_merge.proofs.SmallerLemmas.{smaller_sets_lem}
use Rattle.cpog_merge.proofs.laws.smaller_sets_are_few.Goals as goal

pub returns : goal.returns
returns c = smaller_sets_lem
