use Rattle.std.proofs.Common.{arith, ◌∙◌, ◌++◌, ◌∷◌, [], length-append}
use Rattle.text_rows.specs.Lines.{free_lines}
use Rattle.dimacs_text.proofs.LogTextLemmas.{so_far_step, parts_step, whole_read, first_bad}
use Rattle.dimacs_text.proofs.log.read_log_after.Goals as goal

pub returns-in_default-step : goal.returns-in_default-step
returns-in_default-step c =
    let p = c.loop-line.invariant.parts in
    let bad = rw c.in_default-step.is at c.in-Ok.ensures.step in
    (omega (arith, p.2), first_bad c.args.variables c.args.clauses p.0 (free_lines c.args.bytes.now) (free_lines c.loop-line.rest.now) c.loop-line.log.lines c.loop-line.last _ c.in-Some.line.now (free_lines c.in-Some.after.now) p.3 p.1 c.in-Some.ensures.lines (omega (arith, p.2)) bad)

pub loop-line-preserved : goal.loop-line-preserved
loop-line-preserved c =
    let p = c.loop-line.invariant.parts in
    let s = rw c.in-Some-step.is at c.in-Ok.ensures.step in
    record {
      kind = c.in-Ok.ensures.kind;
      kept = c.in-Ok.ensures.kept;
      first = c.in-Ok.ensures.first ∙ c.loop-line.invariant.first;
      last = s.1;
      counted = omega (arith, c.loop-line.invariant.counted, c.in-Some.ensures.shorter);
      parts = (
        p.0 ++ c.in-Some.line.now ∷ [],
        parts_step p.0 c.in-Some.line.now (free_lines c.args.bytes.now) (free_lines c.loop-line.rest.now) (free_lines c.in-Some.after.now) p.1 c.in-Some.ensures.lines,
        omega (arith, p.2, length-append p.0 (c.in-Some.line.now ∷ [])),
        so_far_step c.args.variables c.args.clauses (omega (arith, c.requires.small)) p.0 c.loop-line.log.lines c.read_line.new.log.lines c.loop-line.last c.in-Some-step.next c.in-Some.line.now p.3 s.0,
      );
    }

pub returns : goal.returns
returns c =
    let p = c.loop-line.invariant.parts in
    let w = whole_read c.args.variables c.args.clauses p.0 (free_lines c.args.bytes.now) (free_lines c.loop-line.rest.now) c.loop-line.log.lines c.loop-line.last p.3 p.1 c.in_default.ensures.lines in
    (w.0, c.loop-line.invariant.first, w.1)
