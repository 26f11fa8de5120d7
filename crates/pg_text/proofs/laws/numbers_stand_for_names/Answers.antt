use Rattle.pg_text.proofs.NumberLaws as laws
use Rattle.pg_text.proofs.laws.numbers_stand_for_names.Goals as goal

pub returns : goal.returns
returns c = laws.numbers_stand_for_names
