use Rattle.pg_normal.proofs.FaultLaws as laws
use Rattle.pg_normal.proofs.laws.forms_have_no_fault.Goals as goal

pub returns : goal.returns
returns c = laws.forms_have_no_fault
