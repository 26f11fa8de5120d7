use Rattle.std.proofs.lemmas.Result.{err_from_is_err_and}
use Rattle.pg_text.proofs.LineSteps.{no_graph_definition, graph_no_end, graph_read}
use Rattle.pg_text.proofs.statements.graph_line.Goals as goal

pub returns-in_err-name-clause-err : goal.returns-in_err-name-clause-err
returns-in_err-name-clause-err c =
    let p = err_from_is_err_and c.from_residual.result c.from_residual.ensures.1 in
    rw (p.1, p.2) (no_graph_definition c.args.line.now c.in-Some.after.now c.in-Some.ensures.cases c.in_err-name.field-0.0 c.in_err-name.ensures.err)

pub returns-then-not-is_ended-clause-err : goal.returns-then-not-is_ended-clause-err
returns-then-not-is_ended-clause-err c = graph_no_end c.args.line.now c.in-Some.after.now c.in-Some.ensures.cases c.args.operations.now c.definition_at.new.operations c.in_ok-name.name c.in_ok-name.expr c.in_ok-name.rest.now c.in_ok-name.ensures.found c.if-not-is_ended.ensures

pub returns-clause-found : goal.returns-clause-found
returns-clause-found c = graph_read c.args.line.now c.in-Some.after.now c.in-Some.ensures.cases c.args.operations.now c.definition_at.new.operations c.in_ok-name.name c.in_ok-name.expr c.in_ok-name.rest.now c.in_ok-name.ensures.found c.if-not-is_ended.ensures
