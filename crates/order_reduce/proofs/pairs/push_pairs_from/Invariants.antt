use Rattle.std.proofs.Common.{◌≡◌, ◌++◌}
use Rattle.order_reduce.specs.Covered.{pairs_from}
use Rattle.order_reduce.proofs.pairs.push_pairs_from.Given as goal

abbrev pub invariant-loop-v : goal.invariant-loop-v
invariant-loop-v l = l.pairs.items ≡ l.initial.pairs.items ++ pairs_from l.rows l.v l.u.0
