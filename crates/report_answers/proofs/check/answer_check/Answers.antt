use Rattle.std.proofs.Common.{refl, inr}
use Rattle.std.proofs.lemmas.Result.{err_from_is_err_and}
use Rattle.report_judge.proofs.RightLemmas.{good_is_right}
use Rattle.report_answers.proofs.check.answer_check.Goals as goal

pub returns-clause-ok : goal.returns-clause-ok
returns-clause-ok c =
    let r = c.in_ok-_good in
    inr (refl, record { report = r._good; spelled = r.ensures.spelled; good = r.ensures.good; right = good_is_right r._good r.ensures.spelled.report r.ensures.good; output_is = c.in_ok-output.ensures })

pub returns-in_err-output-clause-err : goal.returns-in_err-output-clause-err
returns-in_err-output-clause-err c =
    let p = err_from_is_err_and c.from_residual-in_err-output.result c.from_residual-in_err-output.ensures.1 in
    rw (p.1, p.2) tt
