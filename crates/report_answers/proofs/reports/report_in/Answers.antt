use Rattle.std.proofs.Common.{subst}
use Rattle.line_text.specs.Lines.{lines_of}
use Rattle.report_reader.specs.Faults.{IsFaultOf}
use Rattle.cpog_base.specs.declared.status.Status.TheVariants as status
use Rattle.refusal_lines.proofs.StopLemmas.{stop_map}
use Rattle.refusal_lines.specs.declared.refusal.Refusal.TheVariants as refusal
use Rattle.refusal_lines.specs.Refusal.{At, Tells}
use Rattle.report_answers.specs.Checked.{IsBadReportAnswer}
use Rattle.report_answers.proofs.reports.report_in.Goals as goal

pub returns-in-Err-BadSection-clause-err : goal.returns-in-Err-BadSection-clause-err
returns-in-Err-BadSection-clause-err c =
    let bad = c.in-Err-BadSection in
    stop_map (Tells status.Text (refusal.Text bad.line)) (At status.Text (IsBadReportAnswer c.args.bytes.now))
    (λ s x h. (h.0, record { line = bad.line; first = subst (IsFaultOf (lines_of c.args.bytes.now)) bad.field-0-is bad.ensures.bad; output_is = h.1 })) c.refuse.result c.refuse.ensures
