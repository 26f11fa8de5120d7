use Rattle.std.proofs.Common.{◌≡◌, length}
use Rattle.cpog_defs.specs.Orders.{each_below}
use Rattle.report_judge.specs.Steps.{kept_from}
use Rattle.report_judge.proofs.fitting.kept_arcs.Given as goal

abbrev pub invariant-loop-u : goal.invariant-loop-u
invariant-loop-u l = l.arcs.items ≡ each_below (kept_from l.graph l.values (length l.graph.ops)) l.u
