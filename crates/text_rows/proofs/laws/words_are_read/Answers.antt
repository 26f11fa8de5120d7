use Rattle.text_rows.proofs.WritingLemmas.{words_read}
use Rattle.text_rows.proofs.laws.words_are_read.Goals as goal

pub returns : goal.returns
returns c = words_read
