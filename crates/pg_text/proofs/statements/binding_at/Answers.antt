use Rattle.pg_text.proofs.LineSteps.{no_binding_left, no_binding_bit}
use Rattle.pg_text.proofs.SentenceLaws.{join_binding}
use Rattle.pg_text.proofs.statements.binding_at.Goals as goal

pub returns-in_err-name-clause-cases : goal.returns-in_err-name-clause-cases
returns-in_err-name-clause-cases c = rw c.from_residual.ensures (no_binding_left c.args.bytes.now c.in_err-name.ensures.cases)

pub returns-in_err-bit-clause-cases : goal.returns-in_err-bit-clause-cases
returns-in_err-bit-clause-cases c = rw c.from_residual-in_err-bit.ensures (no_binding_bit c.args.bytes.now c.in_ok-name.after.now c.in_ok-name.name.now c.in_ok-name.ensures.cases c.in_err-bit.ensures.cases)

pub returns-clause-cases : goal.returns-clause-cases
returns-clause-cases c = join_binding c.in_ok-name.name.now c.in_ok-bit.bit c.args.bytes.now c.in_ok-name.after.now c.in_ok-bit.rest.now c.in_ok-name.ensures.cases c.in_ok-bit.ensures.cases
