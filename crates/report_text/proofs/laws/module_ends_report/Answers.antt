use Rattle.report_text.proofs.ModuleLemmas.{module_ends}
use Rattle.report_text.proofs.laws.module_ends_report.Goals as goal

pub returns : goal.returns
returns c = module_ends
