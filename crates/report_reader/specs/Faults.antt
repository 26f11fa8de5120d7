-- Why a text is no report.
use Rattle.std.specs.Prelude.{ℕ, List}
use Rattle.text_rows.specs.FirstBad.{IsFirstBad}
use Rattle.report_reader.specs.Reports.{IsReportText}
use Rattle.report_reader.specs.declared.whole.ReportFault.{ReportFault}
use Rattle.report_reader.specs.declared.whole.ReportFault.TheVariants as faults

-- a bad line is the first
abbrev pub IsFaultOf : List (List ℕ) → ReportFault → Type 0
IsFaultOf lines (faults.BadSection k) = IsFirstBad IsReportText lines k
IsFaultOf lines faults.Memory = Unit {0}
