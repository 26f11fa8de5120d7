use Rattle.cpog_defs.proofs.WalkLemmas.{covered_walk, walk_covered}
use Rattle.order_reduce.proofs.laws.covers_keep_walks.Goals as goal

pub returns : goal.returns
returns c = λ n before o u v. (walk_covered n before o u v, covered_walk n before o u v)
