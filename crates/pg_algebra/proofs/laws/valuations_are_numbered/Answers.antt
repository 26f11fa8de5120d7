use Rattle.pg_algebra.proofs.ValuationLaws as laws
use Rattle.pg_algebra.proofs.laws.valuations_are_numbered.Goals as goal

pub returns : goal.returns
returns c = laws.valuations_are_numbered
