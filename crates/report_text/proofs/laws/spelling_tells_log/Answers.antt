use Rattle.report_text.proofs.SpellingLemmas.{one_to_end}
use Rattle.report_text.proofs.laws.spelling_tells_log.Goals as goal

pub returns : goal.returns
returns c = one_to_end
