use Rattle.std.proofs.Common.{arith, refl, ◌++◌, ◌∷◌, [], length-append}
use Rattle.text_rows.specs.Lines.{free_lines}
use Rattle.dimacs_text.proofs.LogTextLemmas.{so_far_start, so_far_step, parts_step, whole_read, first_bad}
use Rattle.dimacs_text.proofs.log.judge_log.Goals as goal

pub loop-line-init : goal.loop-line-init
loop-line-init c = record { kind = tt; counted = omega arith; parts = ([], [], refl, omega arith, so_far_start c.args.variables c.args.clauses) }

pub returns-in_default-step : goal.returns-in_default-step
returns-in_default-step c =
    let p = c.loop-line.invariant.parts in
    let bad = rw c.in_default-step.is at c.in-Ok.ensures.step in
    (omega (arith, p.3), first_bad c.args.variables c.args.clauses p.0 (free_lines c.args.bytes.now) (free_lines c.loop-line.rest.now) p.1 c.loop-line.last _ c.in-Some.line.now (free_lines c.in-Some.after.now) p.4 p.2 c.in-Some.ensures.lines (omega (arith, p.3)) bad)

pub loop-line-preserved : goal.loop-line-preserved
loop-line-preserved c =
    let p = c.loop-line.invariant.parts in
    let s = (rw c.in-Some-step.is at c.in-Ok.ensures.step) p.1 in
    record {
      kind = c.in-Ok.ensures.kind;
      counted = omega (arith, c.loop-line.invariant.counted, c.in-Some.ensures.shorter);
      parts = (
        p.0 ++ c.in-Some.line.now ∷ [],
        s.0,
        parts_step p.0 c.in-Some.line.now (free_lines c.args.bytes.now) (free_lines c.loop-line.rest.now) (free_lines c.in-Some.after.now) p.2 c.in-Some.ensures.lines,
        omega (arith, p.3, length-append p.0 (c.in-Some.line.now ∷ [])),
        so_far_step c.args.variables c.args.clauses c.requires.small p.0 p.1 s.0 c.loop-line.last c.in-Some-step.next c.in-Some.line.now p.4 s.1,
      );
    }

pub returns : goal.returns
returns c =
    let p = c.loop-line.invariant.parts in
    let w = whole_read c.args.variables c.args.clauses p.0 (free_lines c.args.bytes.now) (free_lines c.loop-line.rest.now) p.1 c.loop-line.last p.4 p.2 c.in_default.ensures.lines in
    (p.1, w.0)
