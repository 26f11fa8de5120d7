use Rattle.std.proofs.Common.{◌≡◌}
use Rattle.order_reduce.proofs.covered.covered_orders.Given as goal

abbrev pub invariant-loop-order : goal.invariant-loop-order
invariant-loop-order l = l.covered.items ≡ l.yielded
