use Rattle.report_judge.proofs.template.follow.Goals as goal

pub returns : goal.returns
returns c = rw (c.in_ok-formula.ensures.variables, c.in_ok-formula.ensures.clauses) at c.check_log.ensures
