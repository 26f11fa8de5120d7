use Rattle.std.proofs.Common.{◌≡◌, ◌+◌, ◌-◌, ℕ, length, slice_index_or}
use Rattle.std.specs.FinSet as set
use Rattle.cpog_base.proofs.scenario.extend_to.Given as goal

abbrev pub invariant-rows : goal.invariant-rows
invariant-rows l = (w : ℕ) → slice_index_or l.rows w set.empty ≡ slice_index_or l.fn.rows w set.empty

abbrev pub decreases-rows : goal.decreases-rows
decreases-rows l = l.fn.u.0 + 1 - length l.rows
