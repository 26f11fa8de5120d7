use Rattle.std.proofs.Common.{◌≡◌, true, false, sym, ap, ◌∙◌}
use Rattle.std.specs.Prelude.{codes}
use Rattle.std.specs.Str.{bytes_eq}
use Rattle.evidence_reader.proofs.LogSteps.{log_ends, log_line_bad, log_goes_on, log_breaks_off}
use Rattle.evidence_reader.proofs.log.log_rows.Goals as goal

pub returns-in-Err : goal.returns-in-Err
returns-in-Err c = log_breaks_off c.args.cursor.now c.lines.cursor c.in-Err.fault c.lines.log.lines c.lines.last c.lines.invariant.read c.in-Err.ensures

pub returns-then-eq : goal.returns-then-eq
returns-then-eq c =
    let end : bytes_eq c.in-Ok.line.now (codes "end") ≡ true = ap (bytes_eq c.in-Ok.line.now) (sym c.as_slice.ensures) ∙ sym c.eq.ensures ∙ c.if-eq.true in
    log_ends c.args.cursor.now c.lines.cursor c.line.new.self c.lines.log.lines c.lines.last c.in-Ok.line.now c.lines.invariant.read c.in-Ok.ensures end

pub returns-in_default-step : goal.returns-in_default-step
returns-in_default-step c =
    let more : bytes_eq c.in-Ok.line.now (codes "end") ≡ false = ap (bytes_eq c.in-Ok.line.now) (sym c.as_slice.ensures) ∙ sym c.eq.ensures ∙ c.if-eq.false in
    let none = rw c.in_default-step.is at c.in-Ok-push_line.ensures.step in
    rw c.bad.ensures (log_line_bad c.args.cursor.now c.lines.cursor c.line.new.self c.lines.log.lines c.lines.last c.in-Ok.line.now c.lines.invariant.read c.in-Ok.ensures more none)

pub lines-preserved : goal.lines-preserved
lines-preserved c =
    let more : bytes_eq c.in-Ok.line.now (codes "end") ≡ false = ap (bytes_eq c.in-Ok.line.now) (sym c.as_slice.ensures) ∙ sym c.eq.ensures ∙ c.if-eq.false in
    let s = rw c.in-Some.is at c.in-Ok-push_line.ensures.step in
    record {
      kind = c.in-Ok-push_line.ensures.kind;
      kept = c.in-Ok-push_line.ensures.kept;
      last = s.4;
      read = log_goes_on c.args.cursor.now c.lines.cursor c.line.new.self c.lines.log.lines c.push_line.new.log.lines c.lines.last c.in-Some.next c.in-Ok.line.now s.0 c.lines.invariant.read c.in-Ok.ensures more s.1 s.2 s.3;
    }
