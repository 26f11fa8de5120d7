use Rattle.std.proofs.Common.{◌≡◌, ap, sym, ◌∙◌}
use Rattle.std.proofs.lemmas.Result.{err_from_is_err_and}
use Rattle.line_text.specs.Lines.{lines_of}
use Rattle.report_reader.specs.Reports.{report_read}
use Rattle.report_reader.specs.Wholes.{report_of_rows}
use Rattle.report_reader.proofs.FinalLaws.{whole_fails}
use Rattle.report_reader.proofs.whole.all_rows.Goals as goal

pub returns-in_err-ended : goal.returns-in_err-ended
returns-in_err-ended c =
    let p = err_from_is_err_and c.from_residual-in_err-ended.result c.from_residual-in_err-ended.ensures.1 in
    rw (p.1, p.2) (whole_fails c.in_err-ended.field-0.0 (lines_of c.args.bytes.now) c.rows_of.new.cursor (report_of_rows c.in_ok-rows.rows) (ap report_read (sym c.new-cursor.ensures) ∙ c.in_ok-rows.ensures) c.in_err-ended.ensures)
