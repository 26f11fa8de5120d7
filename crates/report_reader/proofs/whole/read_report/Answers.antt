use Rattle.std.proofs.Common.{subst, sym}
use Rattle.line_text.specs.Lines.{lines_of}
use Rattle.report_text.specs.Report.{ReportValue}
use Rattle.report_text.specs.Spelling.{SpellsReport}
use Rattle.report_reader.specs.Wholes.{report_of_rows}
use Rattle.report_reader.proofs.ReadLaws.{report_found}
use Rattle.report_reader.proofs.FinalLaws.{fault_first}
use Rattle.report_reader.proofs.whole.read_report.Goals as goal

pub report_of-requires : goal.report_of-requires
report_of-requires c = (report_found (lines_of c.args.bytes.now) (report_of_rows c.in-Ok.rows) c.in-Ok.ensures).report

pub returns-in-Ok-clause-found : goal.returns-in-Ok-clause-found
returns-in-Ok-clause-found c = subst (λ (r : ReportValue). SpellsReport r (lines_of c.args.bytes.now)) (sym c.report_of.ensures) (report_found (lines_of c.args.bytes.now) (report_of_rows c.in-Ok.rows) c.in-Ok.ensures)

pub returns-in-Err-BadLine-clause-bad : goal.returns-in-Err-BadLine-clause-bad
returns-in-Err-BadLine-clause-bad c = fault_first (lines_of c.args.bytes.now) c.in-Err-BadLine.field-0 _ c.in-Err-BadLine.field-0-is c.in-Err-BadLine.ensures
