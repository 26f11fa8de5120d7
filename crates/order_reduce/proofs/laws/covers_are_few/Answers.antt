use Rattle.order_reduce.proofs.PairCount.{few_covers}
use Rattle.order_reduce.proofs.laws.covers_are_few.Goals as goal

pub returns : goal.returns
returns c = few_covers
