use Rattle.text_rows.proofs.WritingLemmas.{lines_read}
use Rattle.text_rows.proofs.laws.lines_are_read.Goals as goal

pub returns : goal.returns
returns c = lines_read
