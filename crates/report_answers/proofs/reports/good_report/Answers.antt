use Rattle.std.proofs.Common.{inr, subst}
use Rattle.std.proofs.lemmas.Result.{err_from_is_err_and}
use Rattle.cpog_base.specs.declared.status.Status.TheVariants as status
use Rattle.refusal_lines.proofs.StopLemmas.{stop_map}
use Rattle.refusal_lines.specs.Refusal.{Tells}
use Rattle.report_judge.specs.Reasons.{IsVerdict}
use Rattle.report_answers.specs.Checked.{IsReportRefusal}
use Rattle.report_answers.specs.Reasons.{refusal_of}
use Rattle.report_answers.proofs.reports.good_report.Goals as goal

pub returns-in_err-judge-clause-err : goal.returns-in_err-judge-clause-err
returns-in_err-judge-clause-err c =
    let p = err_from_is_err_and c.from_residual-in_err-judge.result c.from_residual-in_err-judge.ensures.1 in
    rw (p.1, p.2) tt

pub returns-in-No-clause-err : goal.returns-in-No-clause-err
returns-in-No-clause-err c =
    let report = c.in_ok-report in
    stop_map (Tells status.No (refusal_of report.report c.in-No.reason)) (IsReportRefusal c.args.bytes.now)
    (λ s x h. inr (h.0, record { report = report.report; spelled = report.ensures.spelled; reason = c.in-No.reason; first = subst (IsVerdict report.report) c.in-No.is c.in_ok-judge.ensures; output_is = h.1 }))
    c.refuse_reason.result c.refuse_reason.ensures
