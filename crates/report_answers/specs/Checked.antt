-- What `check` and `verilog` print for the text of a report.
use Rattle.std.specs.Prelude.{◌≡◌, ◌⊎◌, List, ℕ, ◌≤◌, length, codes}
use Rattle.cpog_base.specs.declared.limits.TheConstants.{LONG_INPUT_LIMIT}
use Rattle.cpog_base.specs.declared.status.Status.{Status}
use Rattle.cpog_base.specs.declared.status.Status.TheVariants as status
use Rattle.line_text.specs.Lines.{lines_of, text_of}
use Rattle.netlist_verilog.specs.Rows.{module_lines}
use Rattle.refusal_lines.specs.declared.refusal.Refusal.TheVariants as refusal
use Rattle.refusal_lines.specs.Refusal.{refusal_text, At}
use Rattle.report_answers.specs.Reasons.{refusal_of}
use Rattle.report_judge.specs.declared.reason.Reason.{Reason}
use Rattle.report_judge.specs.Good.{IsGood}
use Rattle.report_judge.specs.Laws.{IsRight}
use Rattle.report_judge.specs.Reasons.{IsFirstFailing}
use Rattle.report_reader.specs.Reports.{IsReportText}
use Rattle.report_text.specs.Report.{ReportValue}
use Rattle.report_text.specs.Spelling.{SpellsReport}
use Rattle.text_rows.specs.FirstBad.{IsFirstBad}

-- the line that says that a report is good
abbrev pub yes_text : List ℕ
yes_text = codes "cpog: yes\n"

-- the first line that no report has in its place
pub record IsBadReportAnswer (bytes : List ℕ) (output : List ℕ) : Type 0 where
  pub line : ℕ
  pub first : IsFirstBad IsReportText (lines_of bytes) line
  pub output_is : output ≡ refusal_text (refusal.Text line)

-- the first part of the report that fails, with its place
pub record IsFailingAnswer (bytes : List ℕ) (output : List ℕ) : Type 0 where
  pub report : ReportValue
  pub spelled : SpellsReport report (lines_of bytes)
  pub reason : Reason
  pub first : IsFirstFailing report reason
  pub output_is : output ≡ refusal_text (refusal_of report reason)

-- the text is refused, or its report is
abbrev pub IsReportRefusal : List ℕ → Status → List ℕ → Type 0
IsReportRefusal bytes s output = At status.Text (IsBadReportAnswer bytes) s output ⊎ At status.No (IsFailingAnswer bytes) s output

-- The report is good, and so what the headline says is right of its scenarios, whoever wrote it; and this is printed of it.
pub record IsGoodAnswer (Prints : ReportValue → List ℕ) (bytes : List ℕ) (output : List ℕ) : Type 0 where
  pub report : ReportValue
  pub spelled : SpellsReport report (lines_of bytes)
  pub good : IsGood report
  pub right : IsRight report
  pub output_is : output ≡ Prints report

-- a refusal, or what is printed of a good report
abbrev pub IsReportsAnswer : (ReportValue → List ℕ) → List ℕ → Status → List ℕ → Type 0
IsReportsAnswer Prints bytes s output = IsReportRefusal bytes s output ⊎ At status.Ok (IsGoodAnswer Prints bytes) s output

-- of a good report `check` prints the one line
abbrev pub IsCheckAnswer : List ℕ → Status → List ℕ → Type 0
IsCheckAnswer = IsReportsAnswer (λ r. yes_text)

-- of a good report `verilog` prints its module
abbrev pub IsVerilogAnswer : List ℕ → Status → List ℕ → Type 0
IsVerilogAnswer = IsReportsAnswer (λ r. text_of (module_lines r.design))

-- the bytes are within the limit and spell a good report
pub record SpellGoodReport (bytes : List ℕ) : Type 0 where
  pub within : length bytes ≤ LONG_INPUT_LIMIT
  pub report : ReportValue
  pub spelled : SpellsReport report (lines_of bytes)
  pub good : IsGood report
