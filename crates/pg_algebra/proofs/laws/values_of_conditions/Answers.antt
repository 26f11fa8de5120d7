use Rattle.pg_algebra.proofs.TreeLaws as laws
use Rattle.pg_algebra.proofs.laws.values_of_conditions.Goals as goal

pub returns : goal.returns
returns c = laws.values_of_conditions
