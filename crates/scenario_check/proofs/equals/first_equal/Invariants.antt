use Rattle.std.proofs.Common.{ℕ, ◌<◌}
use Rattle.scenario_check.specs.Equals.{AreEqualAt}
use Rattle.scenario_check.proofs.equals.first_equal.Given as goal

abbrev pub invariant-loop-later : goal.invariant-loop-later
invariant-loop-later l = (i j : ℕ) → i < l.later → AreEqualAt l.orders i j → ⊥
