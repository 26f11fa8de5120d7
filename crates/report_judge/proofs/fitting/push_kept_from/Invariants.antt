use Rattle.std.proofs.Common.{◌≡◌, ◌++◌}
use Rattle.report_judge.specs.Steps.{kept_from}
use Rattle.report_judge.proofs.fitting.push_kept_from.Given as goal

abbrev pub invariant-loop-v : goal.invariant-loop-v
invariant-loop-v l = l.arcs.items ≡ l.initial.arcs.items ++ kept_from l.graph l.values l.v l.u.0
