use Rattle.std.proofs.Common.{sym, ◌∙◌, inl, inr, arith}
use Rattle.command_words.proofs.WordLemmas.{number_found, number_outside, no_number}
use Rattle.command_words.proofs.words.number_within.Goals as goal

pub returns-in_err-number : goal.returns-in_err-number
returns-in_err-number c = c.from_residual.ensures ∙ no_number c.args.least c.args.most c.args.word.now c.ranges.most.fits
    (λ n few e. c.in_err-number.ensures n few (c.as_bytes.ensures.value ∙ e))

pub returns-then-number-from : goal.returns-then-number-from
returns-then-number-from c =
    let found = c.in_ok-number.ensures in
    number_outside c.args.least c.args.most c.args.word.now c.in_ok-number.number found.0 (sym c.as_bytes.ensures.value ∙ found.1)
    (inl (omega (arith, c.if-number-from.true, c.from.ensures)))

pub returns-then-number-from-2 : goal.returns-then-number-from-2
returns-then-number-from-2 c =
    let found = c.in_ok-number.ensures in
    number_outside c.args.least c.args.most c.args.word.now c.in_ok-number.number found.0 (sym c.as_bytes.ensures.value ∙ found.1)
    (inr (omega (arith, c.if-number-from-2.true, c.from-2.ensures)))

pub returns : goal.returns
returns c =
    let found = c.in_ok-number.ensures in
    sym (number_found c.args.least c.args.most c.args.word.now c.in_ok-number.number found.0 (sym c.as_bytes.ensures.value ∙ found.1)
    (omega (arith, c.if-number-from.false, c.from.ensures)) (omega (arith, c.if-number-from-2.false, c.from-2.ensures)))
