use Rattle.std.proofs.Common.{◌≡◌, ◌+◌, ◌<◌, ℕ, length}
use Rattle.report_judge.specs.Fitting.{FitsAt}
use Rattle.report_judge.proofs.fitting.check_fitting.Given as goal

abbrev pub invariant-loop-s : goal.invariant-loop-s
invariant-loop-s l = (length l.values.items ≡ l.report.encoding.gates.inputs + length l.report.encoding.gates.gates) × ((t : ℕ) → t < l.s → FitsAt l.report.encoding l.report.scenarios t)
