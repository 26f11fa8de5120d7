use Rattle.std.proofs.lemmas.Result.{err_from_is_err_and}
use Rattle.pg_text.proofs.LineSteps.{no_with, with_read}
use Rattle.pg_text.proofs.statements.with_at.Goals as goal

pub returns-in_err-bindings-clause-err : goal.returns-in_err-bindings-clause-err
returns-in_err-bindings-clause-err c =
    let p = err_from_is_err_and c.from_residual.result c.from_residual.ensures.1 in
    rw (p.1, p.2) (no_with c.args.bytes.now c.in-Some.after.now c.in-Some.ensures.cases c.in_err-bindings.field-0.0 c.in_err-bindings.ensures.err)

pub returns-clause-found : goal.returns-clause-found
returns-clause-found c = with_read c.args.bytes.now c.in-Some.after.now c.in_ok-bindings.bindings.items c.in_ok-bindings.rest.now c.in-Some.ensures.cases c.in_ok-bindings.ensures.found
