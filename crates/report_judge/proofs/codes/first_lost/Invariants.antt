use Rattle.std.proofs.Common.{◌<◌, ℕ}
use Rattle.report_judge.specs.Codes.{IsKeptAt}
use Rattle.report_judge.proofs.codes.first_lost.Given as goal

abbrev pub invariant-loop-s : goal.invariant-loop-s
invariant-loop-s l = (t : ℕ) → t < l.s → IsKeptAt l.patterns l.codes t
