use Rattle.pg_text.proofs.TextLaws as laws
use Rattle.pg_text.proofs.laws.one_file.Goals as goal

pub returns : goal.returns
returns c = laws.one_file
