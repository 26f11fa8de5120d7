use Rattle.report_judge.specs.Reasons.{part_of}
use Rattle.report_judge.proofs.FailLemmas.{part_fails}
use Rattle.report_judge.proofs.laws.good_or_failing.Goals as goal

pub returns : goal.returns
returns c = λ r reason good fails. part_fails r reason fails (good (part_of reason))
