use Rattle.std.proofs.Common.{arith, ◌++◌, ◌∷◌, [], sym, length-append}
use Rattle.text_rows.specs.Lines.{free_lines}
use Rattle.dimacs_text.proofs.LogTextLemmas.{parts_step}
use Rattle.dimacs_text.proofs.FrontLemmas.{passed_push}
use Rattle.dimacs_text.proofs.JoinedLemmas.{front_bad, front_end}
use Rattle.dimacs_text.proofs.cnf.read_front.Goals as goal

pub returns-clause-front : goal.returns-clause-front
returns-clause-front c =
    let p = c.loop-line.invariant.parts in
    front_end p.0 (free_lines c.args.bytes.now) (free_lines c.loop-line.rest.now) _ p.3 p.1 c.in_default.ensures.lines (omega (arith, p.2))

pub loop-line-preserved : goal.loop-line-preserved
loop-line-preserved c =
    let i = c.loop-line.invariant in
    let p = i.parts in
    record {
      counted = omega (arith, i.counted, c.in-Some.ensures.shorter);
      parts = (
        p.0 ++ c.in-Some.line.now ∷ [],
        parts_step p.0 c.in-Some.line.now (free_lines c.args.bytes.now) (free_lines c.loop-line.rest.now) (free_lines c.in-Some.after.now) p.1 c.in-Some.ensures.lines,
        omega (arith, p.2, length-append p.0 (c.in-Some.line.now ∷ [])),
        passed_push p.0 c.in-Some.line.now p.3 (sym c.if-is_passed.ensures),
      );
    }

pub returns-in_default-read_header-clause-front : goal.returns-in_default-read_header-clause-front
returns-in_default-read_header-clause-front c =
    let p = c.loop-line.invariant.parts in
    front_bad p.0 (free_lines c.args.bytes.now) (free_lines c.loop-line.rest.now) c.in-Some.line.now (free_lines c.in-Some.after.now) _ p.3 p.1 c.in-Some.ensures.lines (sym c.if-is_passed.ensures) (omega (arith, p.2)) c.in_default-read_header.ensures
