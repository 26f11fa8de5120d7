use Rattle.std.proofs.Common.{◌<◌, ℕ}
use Rattle.report_judge.specs.Codes.{HaveOneCode}
use Rattle.report_judge.proofs.codes.first_same.Given as goal

abbrev pub invariant-loop-later : goal.invariant-loop-later
invariant-loop-later l = (i j : ℕ) → i < l.later → HaveOneCode l.codes i j → ⊥
