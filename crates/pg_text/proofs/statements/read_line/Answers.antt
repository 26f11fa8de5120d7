use Rattle.std.proofs.lemmas.Result.{err_from_is_err_and}
use Rattle.pg_text.proofs.LineSteps.{line_read, no_line}
use Rattle.pg_text.proofs.statements.read_line.Goals as goal

pub returns-in_err-statement-clause-err : goal.returns-in_err-statement-clause-err
returns-in_err-statement-clause-err c =
    let p = err_from_is_err_and c.from_residual.result c.from_residual.ensures.1 in
    rw (p.1, p.2) (no_line c.args.line.now c.if-is_ended.ensures c.in_err-statement.field-0.0 c.in_err-statement.ensures.err)

pub returns-clause-found : goal.returns-clause-found
returns-clause-found c = line_read c.args.operations.now c.statement_at.new.operations c.args.line.now c.in_ok-statement.statement c.in_ok-statement.ensures.found
