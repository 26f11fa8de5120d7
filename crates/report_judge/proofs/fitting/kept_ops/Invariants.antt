use Rattle.std.proofs.Common.{◌≡◌, ◌&&◌, nat_lt, ℕ}
use Rattle.std.specs.FinSet as set
use Rattle.cpog_defs.specs.Graphs.{keeps}
use Rattle.report_judge.proofs.fitting.kept_ops.Given as goal

abbrev pub invariant-loop-v : goal.invariant-loop-v
invariant-loop-v l = (w : ℕ) → set.contains l.kept w ≡ (nat_lt w l.v && keeps l.graph l.values w)
