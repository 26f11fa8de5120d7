use Rattle.report_reader.proofs.ArcSteps.{arcs_start}
use Rattle.report_reader.proofs.gates.arcs_of.Goals as goal

pub lines-init : goal.lines-init
lines-init c = arcs_start c.args.inputs c.args.gates c.args.names.now c.args.cursor.now c.new-arcs.result.items c.new-arcs.ensures.items
