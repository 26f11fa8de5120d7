use Rattle.cpog_merge.proofs.GraphLemmas.{by_class_is_graph}
use Rattle.cpog_merge.proofs.laws.graph_by_class_is_graph.Goals as goal

pub returns : goal.returns
returns c = by_class_is_graph
