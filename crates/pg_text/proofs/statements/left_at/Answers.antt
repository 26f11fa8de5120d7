use Rattle.pg_text.proofs.LineSteps.{no_left_name, no_left_equals}
use Rattle.pg_text.proofs.statements.left_at.Goals as goal

pub returns-in_err-name-clause-cases : goal.returns-in_err-name-clause-cases
returns-in_err-name-clause-cases c = rw c.from_residual.ensures (no_left_name c.args.bytes.now c.in_err-name.ensures.cases)

pub returns-in_err-rest-clause-cases : goal.returns-in_err-rest-clause-cases
returns-in_err-rest-clause-cases c = rw c.from_residual-in_err-rest.ensures (no_left_equals c.args.bytes.now c.in_ok-name.after.now c.in_ok-name.name.now c.in_ok-name.ensures.cases c.in_err-rest.ensures.cases)
