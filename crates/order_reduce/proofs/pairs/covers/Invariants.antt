use Rattle.std.proofs.Common.{◌≡◌, length}
use Rattle.cpog_defs.specs.Orders.{each_below}
use Rattle.order_reduce.specs.Covered.{pairs_from}
use Rattle.order_reduce.proofs.pairs.covers.Given as goal

abbrev pub invariant-loop-u : goal.invariant-loop-u
invariant-loop-u l = l.pairs.items ≡ each_below (pairs_from l.rows (length l.rows)) l.u
