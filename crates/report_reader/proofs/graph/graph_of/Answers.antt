use Rattle.report_reader.proofs.FinalLaws.{graph_is}
use Rattle.report_reader.proofs.graph.graph_of.Goals as goal

pub returns : goal.returns
returns c = graph_is c.args.count c.args.ops.now c.args.arcs.now c.in_ok-graph.graph c.set_arcs.new.graph c.set_ops.new.graph c.requires.arcs c.in_ok-graph.ensures c.set_arcs.ensures c.set_ops.ensures
