use Rattle.report_judge.proofs.FailLemmas.{one_first_reason}
use Rattle.report_judge.proofs.laws.one_verdict.Goals as goal

pub returns : goal.returns
returns c = one_first_reason
