use Rattle.report_text.proofs.LawLemmas.{one_report}
use Rattle.report_text.proofs.laws.spelling_tells_report.Goals as goal

pub returns : goal.returns
returns c = one_report
