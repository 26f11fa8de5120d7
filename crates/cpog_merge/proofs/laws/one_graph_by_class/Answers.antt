use Rattle.cpog_merge.proofs.GraphLemmas.{one_by_class}
use Rattle.cpog_merge.proofs.laws.one_graph_by_class.Goals as goal

pub returns : goal.returns
returns c = one_by_class
