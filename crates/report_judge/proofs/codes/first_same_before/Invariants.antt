use Rattle.std.proofs.Common.{◌<◌, ℕ}
use Rattle.report_judge.specs.Codes.{HaveOneCode}
use Rattle.report_judge.proofs.codes.first_same_before.Given as goal

abbrev pub invariant-loop-earlier : goal.invariant-loop-earlier
invariant-loop-earlier l = (j : ℕ) → j < l.earlier → HaveOneCode l.codes l.later j → ⊥
