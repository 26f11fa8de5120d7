use Rattle.std.proofs.Common.{◌≡◌, ◌&&◌, ℕ}
use Rattle.std.specs.FinSet as set
use Rattle.cpog_defs.specs.Orders.{any_below, is_before}
use Rattle.order_reduce.proofs.covered.before_those_before.Given as goal

abbrev pub invariant-loop-z : goal.invariant-loop-z
invariant-loop-z l = (u : ℕ) → set.contains l.earlier u ≡ any_below (λ z. is_before l.order u z && is_before l.order z l.fn.v.0) l.z
