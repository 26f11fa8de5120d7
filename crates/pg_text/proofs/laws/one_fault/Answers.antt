use Rattle.pg_text.proofs.TextLaws as laws
use Rattle.pg_text.proofs.laws.one_fault.Goals as goal

pub returns : goal.returns
returns c = laws.one_fault
