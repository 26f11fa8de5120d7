use Rattle.pg_text.proofs.LineSteps.{no_first_word}
use Rattle.pg_text.proofs.statements.statement_at.Goals as goal

pub returns-clause-err : goal.returns-clause-err
returns-clause-err c = no_first_word c.args.line.now (rw c.in_default.is at c.in_ok-scenario.ensures.found).0 (rw c.in_default-2.is at c.in_ok-graph.ensures.found).0 (rw c.in_default-3.is at c.in_ok-params.ensures.found)
