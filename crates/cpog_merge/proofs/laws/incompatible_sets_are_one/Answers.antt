use Rattle.std.proofs.Common.{length}
use Rattle.cpog_merge.proofs.TakenLemmas.{sets_are_one}
use Rattle.cpog_merge.proofs.laws.incompatible_sets_are_one.Goals as goal

pub returns : goal.returns
returns c = λ columns a b x y. sets_are_one columns (length columns) a b x y
