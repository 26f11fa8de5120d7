use Rattle.report_text.proofs.LogLemmas.{end_closes}
use Rattle.report_text.proofs.laws.end_closes_log.Goals as goal

pub returns : goal.returns
returns c = end_closes
