use Rattle.std.proofs.Common.{◌≡◌, ◌≤◌, drop, length}
use Rattle.report_reader.specs.Entries.{arcs_set}
use Rattle.report_reader.proofs.graph.set_arcs.Given as goal

abbrev pub invariant-loop-left : goal.invariant-loop-left
invariant-loop-left l = (l.left ≤ length l.arcs) × (l.graph.ops ≡ l.initial.graph.ops) × (l.graph.arcs ≡ arcs_set l.initial.graph.arcs (drop l.left l.arcs))

abbrev pub decreases-loop-left : goal.decreases-loop-left
decreases-loop-left l = l.left
