use Rattle.pg_normal.proofs.TextLaws as laws
use Rattle.pg_normal.proofs.laws.one_normal_text.Goals as goal

pub returns : goal.returns
returns c = laws.one_normal_text
