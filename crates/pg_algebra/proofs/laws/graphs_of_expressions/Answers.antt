use Rattle.pg_algebra.proofs.TreeLaws as laws
use Rattle.pg_algebra.proofs.laws.graphs_of_expressions.Goals as goal

pub returns : goal.returns
returns c = laws.graphs_of_expressions
