use Rattle.order_reduce.proofs.CoveredLemmas.{covered_tells, covered_from}
use Rattle.order_reduce.proofs.laws.covering_is_covered.Goals as goal

pub returns : goal.returns
returns c = λ o ord u v. (covered_tells o ord u v, covered_from o ord u v)
