use Rattle.cpog_merge.proofs.AgreeLemmas.{graph_by_class_lem}
use Rattle.cpog_merge.proofs.laws.graph_by_class_agrees.Goals as goal

pub returns : goal.returns
returns c = graph_by_class_lem
