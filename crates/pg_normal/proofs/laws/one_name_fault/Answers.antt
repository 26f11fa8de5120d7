use Rattle.pg_normal.proofs.FaultLaws as laws
use Rattle.pg_normal.proofs.laws.one_name_fault.Goals as goal

pub returns : goal.returns
returns c = laws.one_name_fault
