use Rattle.pg_text.proofs.TextLaws as laws
use Rattle.pg_text.proofs.laws.file_has_no_fault.Goals as goal

pub returns : goal.returns
returns c = laws.file_has_no_fault
