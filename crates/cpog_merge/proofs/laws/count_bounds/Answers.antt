use Rattle.cpog_merge.proofs.CountLemmas.{count_bounds_lem}
use Rattle.cpog_merge.proofs.laws.count_bounds.Goals as goal

pub returns : goal.returns
returns c = count_bounds_lem
