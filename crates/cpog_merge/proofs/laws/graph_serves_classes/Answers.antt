use Rattle.cpog_merge.proofs.ConverseLemmas.{graph_serves}
use Rattle.cpog_merge.proofs.laws.graph_serves_classes.Goals as goal

pub returns : goal.returns
returns c = graph_serves
