use Rattle.std.proofs.Common.{arith, refl, ◌++◌, ◌∷◌, [], length-append}
use Rattle.std.specs.Prelude.{codes}
use Rattle.text_rows.specs.Lines.{free_lines}
use Rattle.dimacs_text.proofs.BodyLemmas.{good_start, good_more, told_other}
use Rattle.dimacs_text.proofs.LogTextLemmas.{parts_step}
use Rattle.dimacs_text.proofs.cnf.read_body.Goals as goal

pub loop-line-init : goal.loop-line-init
loop-line-init c = record {
  kind = c.requires.kind;
  counted = omega (arith, c.requires.size);
  parts = ([], [], [], refl, omega arith, c.requires.nothing, good_start c.args.header.variables c.args.header.clauses);
}

pub loop-line-preserved : goal.loop-line-preserved
loop-line-preserved c =
    let i = c.loop-line.invariant in
    let p = i.parts in
    let g = p.6 in
    let taken = rw c.if-not-taken.false at c.in-Ok.ensures.taken in
    let t = taken p.1 p.2 (record { holds = p.5; left = g.left; within = g.within; open_within = g.open_within }) in
    record {
      kind = c.in-Ok.ensures.kind;
      counted = omega (arith, i.counted, c.in-Some.ensures.shorter);
      parts = (
        p.0 ++ c.in-Some.line.now ∷ [],
        t.0,
        t.1,
        parts_step p.0 c.in-Some.line.now (free_lines c.args.bytes.now) (free_lines c.loop-line.rest.now) (free_lines c.in-Some.after.now) p.3 c.in-Some.ensures.lines,
        omega (arith, p.4, length-append p.0 (c.in-Some.line.now ∷ [])),
        t.2.holds,
        good_more c.args.header.variables c.args.header.clauses p.0 c.in-Some.line.now p.1 t.0 p.2 t.1 g (told_other c.in-Some.line.now c.as_slice.result.now (codes "lrat") c.if-eq.ensures c.as_slice.ensures) t.3 t.2.left t.2.within t.2.open_within,
      );
    }
