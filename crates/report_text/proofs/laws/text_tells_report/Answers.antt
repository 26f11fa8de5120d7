use Rattle.report_text.proofs.LawLemmas.{report_told}
use Rattle.report_text.proofs.laws.text_tells_report.Goals as goal

pub returns : goal.returns
returns c = report_told
