use Rattle.std.proofs.Common.{◌≡◌, length}
use Rattle.std.specs.Prelude.{codes}
use Rattle.cpog_base.specs.declared.limits.TheConstants.{VARIABLE_LIMIT}
use Rattle.proof_check.specs.Lines.{last_id}
use Rattle.dimacs_text.specs.Logs.{id_after}
use Rattle.dimacs_text.specs.Keeping.{IsLitsFor, IsKept}
use Rattle.line_rows.specs.Reading.{exactly}
use Rattle.line_rows.specs.Lined.{lined_of}
use Rattle.line_rows.proofs.LinedLoops.{with_rows}
use Rattle.evidence_reader.specs.LogLines.{log_line_in}
use Rattle.evidence_reader.specs.Rows.{is_log_row}
use Rattle.evidence_reader.specs.Shown.{log_rows_at}
use Rattle.evidence_reader.proofs.log.log_rows.Given as goal

abbrev pub invariant-lines : goal.invariant-lines
invariant-lines l = record {
  kind : IsLitsFor VARIABLE_LIMIT l.lits;
  kept : IsKept l.lits;
  last : last_id l.log.first l.log.lines ≡ l.last;
  read : with_rows l.log.lines (lined_of is_log_row (log_line_in VARIABLE_LIMIT) id_after (exactly (codes "end")) l.last l.cursor) ≡ log_rows_at l.fn.cursor;
}

abbrev pub decreases-lines : goal.decreases-lines
decreases-lines l = length l.cursor.lines
