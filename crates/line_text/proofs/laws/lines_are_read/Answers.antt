use Rattle.line_text.proofs.SplittingLemmas.{lines_again}
use Rattle.line_text.proofs.laws.lines_are_read.Goals as goal

pub returns : goal.returns
returns c = lines_again
