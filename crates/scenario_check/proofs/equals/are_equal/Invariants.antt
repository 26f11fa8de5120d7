use Rattle.std.proofs.Common.{◌≡◌, ◌<◌, ℕ}
use Rattle.cpog_defs.specs.Orders.{is_before}
use Rattle.scenario_check.proofs.equals.are_equal.Given as goal

abbrev pub invariant-loop-v : goal.invariant-loop-v
invariant-loop-v l = (w : ℕ) → w < l.v → (u : ℕ) → is_before l.a u w ≡ is_before l.b u w
