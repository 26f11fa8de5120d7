use Rattle.std.proofs.Common.{arith, sym, ◌∙◌}
use Rattle.text_rows.proofs.PlainLemmas.{tokens_number, number_parts, longer}
use Rattle.text_rows.proofs.words.number.Goals as goal

pub returns-in_default-clause-words : goal.returns-in_default-clause-words
returns-in_default-clause-words c n ws lt e =
    let s = c.skip_spaces-word.ensures in
    let p = number_parts c.args.bytes.now c.skip_spaces-word.result.now _ ws s.words s.first e in
    c.in_default.ensures n p.0 lt p.2 p.1

pub returns-clause-words : goal.returns-clause-words
returns-clause-words c =
    let f = c.in-Some.ensures in
    (f.0, sym c.skip_spaces-word.ensures.words ∙ tokens_number c.in-Some.n c.in-Some.rest.now c.skip_spaces-word.result.now f.0 f.1 f.2)

pub returns-clause-shorter : goal.returns-clause-shorter
returns-clause-shorter c =
    let f = c.in-Some.ensures in
    omega (arith, longer c.in-Some.n c.skip_spaces-word.result.now c.in-Some.rest.now f.0 f.2, c.skip_spaces-word.ensures.length)
