use Rattle.std.proofs.Common.{arith, sym, ◌∙◌, ◌≡◌, true, false}
use Rattle.text_rows.proofs.PlainLemmas.{tokens_number, tokens_minus, number_parts, longer, same_number, signed_none_minus, signed_none_plain}
use Rattle.text_rows.proofs.words.signed.Goals as goal

pub returns-in_default-plain-clause-words : goal.returns-in_default-plain-clause-words
returns-in_default-plain-clause-words c negated m ws lt some e =
    let s = c.skip_spaces-word.ensures in
    let p = number_parts c.args.bytes.now c.skip_spaces-word.result.now _ ws s.words s.first e in
    signed_none_minus c.skip_spaces-word.result.now c.in-Some.body.now negated m p.0 c.in-Some.ensures lt (λ x l n t f. c.in_default-plain.ensures m x l n f) p.2 p.1

pub returns-then-n-eq0-clause-words : goal.returns-then-n-eq0-clause-words
returns-then-n-eq0-clause-words c negated m ws lt some e =
    let s = c.skip_spaces-word.ensures in
    let p = number_parts c.args.bytes.now c.skip_spaces-word.result.now _ ws s.words s.first e in
    let g = c.in-Some-plain.ensures in
    signed_none_minus c.skip_spaces-word.result.now c.in-Some.body.now negated m p.0 c.in-Some.ensures lt
    (λ x l n t f. omega (arith, some t, c.if-n-eq0.true, same_number m c.in-Some-plain.n x c.in-Some-plain.rest.now l g.0 n g.1 (sym f ∙ g.2)))
    p.2 p.1

pub returns-in-Some-clause-words : goal.returns-in-Some-clause-words
returns-in-Some-clause-words c =
    let g = c.in-Some-plain.ensures in
    (g.0, (λ t. omega (arith, c.if-n-eq0.false)), sym c.skip_spaces-word.ensures.words ∙ tokens_minus c.in-Some-plain.n c.in-Some-plain.rest.now c.in-Some.body.now c.skip_spaces-word.result.now g.0 g.1 c.in-Some.ensures g.2)

pub returns-in_default-plain-2-clause-words : goal.returns-in_default-plain-2-clause-words
returns-in_default-plain-2-clause-words c negated m ws lt some e =
    let s = c.skip_spaces-word.ensures in
    let p = number_parts c.args.bytes.now c.skip_spaces-word.result.now _ ws s.words s.first e in
    signed_none_plain c.skip_spaces-word.result.now negated m p.0 c.in_default.ensures (λ f. c.in_default-plain-2.ensures m p.0 lt p.2 f) p.1

pub returns-clause-words : goal.returns-clause-words
returns-clause-words c =
    let g = c.in-Some-plain-2.ensures in
    (g.0, (λ t. let h : false ≡ true = t in absurd cc), sym c.skip_spaces-word.ensures.words ∙ tokens_number c.in-Some-plain-2.n c.in-Some-plain-2.rest.now c.skip_spaces-word.result.now g.0 g.1 g.2)

pub returns-clause-shorter : goal.returns-clause-shorter
returns-clause-shorter c =
    let g = c.in-Some-plain-2.ensures in
    omega (arith, longer c.in-Some-plain-2.n c.skip_spaces-word.result.now c.in-Some-plain-2.rest.now g.0 g.2, c.skip_spaces-word.ensures.length)
