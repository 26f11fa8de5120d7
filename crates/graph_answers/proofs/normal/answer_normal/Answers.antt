use Rattle.std.proofs.lemmas.Result.{err_from_is_err_and}
use Rattle.graph_answers.proofs.normal.answer_normal.Goals as goal

pub returns-in_err-forms-clause-err : goal.returns-in_err-forms-clause-err
returns-in_err-forms-clause-err c =
    let p = err_from_is_err_and c.from_residual-in_err-forms.result c.from_residual-in_err-forms.ensures.1 in
    rw (p.1, p.2) tt

pub returns-in_err-output-clause-err : goal.returns-in_err-output-clause-err
returns-in_err-output-clause-err c =
    let p = err_from_is_err_and c.from_residual-in_err-output.result c.from_residual-in_err-output.ensures.1 in
    rw (p.1, p.2) tt
