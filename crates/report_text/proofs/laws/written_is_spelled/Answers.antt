use Rattle.report_text.proofs.SpellingLemmas.{written_spelled}
use Rattle.report_text.proofs.laws.written_is_spelled.Goals as goal

pub returns : goal.returns
returns c = written_spelled
