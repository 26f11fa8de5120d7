use Rattle.std.proofs.Common.{◌≡◌, ◌<◌, ℕ}
use Rattle.cpog_base.specs.Rows.{row_has}
use Rattle.report_judge.proofs.fitting.first_difference_from.Given as goal

abbrev pub invariant-loop-v : goal.invariant-loop-v
invariant-loop-v l = (w : ℕ) → w < l.v → row_has l.rows l.u.0 w ≡ row_has l.others l.u.0 w
