use Rattle.std.proofs.Common.{◌≡◌, ◌<◌, ℕ}
use Rattle.cpog_base.specs.Rows.{row_has}
use Rattle.report_judge.proofs.fitting.first_difference.Given as goal

abbrev pub invariant-loop-u : goal.invariant-loop-u
invariant-loop-u l = (a b : ℕ) → a < l.u → row_has l.rows a b ≡ row_has l.others a b
