use Rattle.report_judge.proofs.RightLemmas.{good_is_right}
use Rattle.report_judge.proofs.laws.good_reports_are_right.Goals as goal

pub returns : goal.returns
returns c = good_is_right
