use Rattle.std.proofs.Common.{length}
use Rattle.report_reader.proofs.ArcSteps.{AreArcsTo}
use Rattle.report_reader.proofs.gates.arcs_of.Given as goal

abbrev pub invariant-lines : goal.invariant-lines
invariant-lines l = AreArcsTo l.inputs l.gates l.names l.fn.cursor l.arcs.items (record { first = l.least.first; second = l.least.second }) l.cursor

abbrev pub decreases-lines : goal.decreases-lines
decreases-lines l = length l.cursor.lines
