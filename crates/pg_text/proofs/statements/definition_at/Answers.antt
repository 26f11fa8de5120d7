use Rattle.std.proofs.lemmas.Result.{err_from_is_err_and}
use Rattle.pg_text.proofs.LineSteps.{no_definition_left, no_definition_expr, definition_read}
use Rattle.pg_text.proofs.statements.definition_at.Goals as goal

pub returns-in_default-clause-err : goal.returns-in_default-clause-err
returns-in_default-clause-err c = no_definition_left c.args.bytes.now c.in_default.ensures.cases

pub returns-in_err-expr-clause-err : goal.returns-in_err-expr-clause-err
returns-in_err-expr-clause-err c =
    let p = err_from_is_err_and c.from_residual-in_err-expr.result c.from_residual-in_err-expr.ensures.1 in
    rw (p.1, p.2) (no_definition_expr c.args.bytes.now c.in-Some.after.now c.in-Some.name.now c.in-Some.ensures.cases c.in_err-expr.field-0.0 c.in_err-expr.ensures.err)

pub returns-clause-found : goal.returns-clause-found
returns-clause-found c = definition_read c.args.operations.now c.expression_at.new.operations c.args.bytes.now c.in-Some.after.now c.in-Some.name.now c.in_ok-name.name c.in_ok-expr.expr c.in_ok-expr.rest.now c.in-Some.ensures.cases c.in_ok-name.ensures c.in_ok-expr.ensures.found
