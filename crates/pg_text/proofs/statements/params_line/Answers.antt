use Rattle.std.proofs.lemmas.Result.{err_from_is_err_and}
use Rattle.pg_text.proofs.LineSteps.{no_params, params_no_end, params_read}
use Rattle.pg_text.proofs.statements.params_line.Goals as goal

pub returns-in_err-names-clause-err : goal.returns-in_err-names-clause-err
returns-in_err-names-clause-err c =
    let p = err_from_is_err_and c.from_residual.result c.from_residual.ensures.1 in
    rw (p.1, p.2) (no_params c.args.line.now c.in-Some.after.now c.in-Some.ensures.cases c.in_err-names.field-0.0 c.in_err-names.ensures.err)

pub returns-then-not-is_ended-clause-err : goal.returns-then-not-is_ended-clause-err
returns-then-not-is_ended-clause-err c = params_no_end c.args.line.now c.in-Some.after.now c.in-Some.ensures.cases c.in_ok-names.names.items c.in_ok-names.rest.now c.in_ok-names.ensures.found c.if-not-is_ended.ensures

pub returns-clause-found : goal.returns-clause-found
returns-clause-found c = rw c.new-names.ensures (params_read c.args.line.now c.in-Some.after.now c.in-Some.ensures.cases c.in_ok-names.names.items c.in_ok-names.rest.now c.in_ok-names.ensures.found c.if-not-is_ended.ensures)
