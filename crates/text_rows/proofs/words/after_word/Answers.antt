use Rattle.std.proofs.Common.{◌≡◌, ◌++◌, ◌∙◌, List, ℕ, length, take, drop, ap, sym, subst, arith, length-append}
use Rattle.std.proofs.Math.Seq.{take-append_seam, drop-append_seam}
use Rattle.text_rows.specs.Words.{EndsWord}
use Rattle.text_rows.proofs.PlainLemmas.{number_parts, word_found, told_apart, told_same}
use Rattle.text_rows.proofs.words.after_word.Goals as goal

pub returns-then-text-word-clause-words : goal.returns-then-text-word-clause-words
returns-then-text-word-clause-words c ws e =
    let s = c.skip_spaces-text.ensures in
    let p = number_parts c.args.bytes.now c.skip_spaces-text.result.now c.args.word.now ws s.words s.first e in
    absurd (omega (arith, c.if-text-word.true, ap length p.1, length-append c.args.word.now p.0))

pub returns-then-ne-clause-words : goal.returns-then-ne-clause-words
returns-then-ne-clause-words c ws e =
    let s = c.skip_spaces-text.ensures in
    let w = c.args.word.now in
    let p = number_parts c.args.bytes.now c.skip_spaces-text.result.now w ws s.words s.first e in
    told_apart c.split_at.result.0.now w c.if-ne.ensures (c.split_at.ensures.front ∙ (ap (take (length w)) p.1 ∙ take-append_seam w p.0))

pub returns-then-not-ends_word-clause-words : goal.returns-then-not-ends_word-clause-words
returns-then-not-ends_word-clause-words c ws e =
    let s = c.skip_spaces-text.ensures in
    let w = c.args.word.now in
    let p = number_parts c.args.bytes.now c.skip_spaces-text.result.now w ws s.words s.first e in
    c.if-not-ends_word.ensures (subst EndsWord (sym (c.split_at.ensures.back ∙ (ap (drop (length w)) p.1 ∙ drop-append_seam w p.0))) p.2)

pub returns-clause-words : goal.returns-clause-words
returns-clause-words c =
    let after = c.split_at.result.1.now in
    let front : c.split_at.result.0.now ≡ c.args.word.now = told_same c.split_at.result.0.now c.args.word.now c.if-ne.ensures in
    sym c.skip_spaces-text.ensures.words ∙ word_found c.skip_spaces-text.result.now c.args.word.now after c.requires.some c.requires.no_space (c.split_at.ensures.by_index.0 ∙ ap (λ (t : List ℕ). t ++ after) front) c.if-not-ends_word.ensures
