use Rattle.std.proofs.Common.{◌≡◌, ◌-◌, ◌++◌, ◌∙◌, sym, ap, List, ℕ, length, take, drop}
use Rattle.std.specs.Fmt.{decimal}
use Rattle.text_rows.proofs.PlainLemmas.{whole, plain_found, plain_no_digit, plain_padded, plain_goes_on}
use Rattle.text_rows.proofs.words.plain.Goals as goal

pub returns-then-end-eq0 : goal.returns-then-end-eq0
returns-then-end-eq0 c m more lt ends e =
    let d = c.digits-n.ensures in
    plain_no_digit c.args.word.now c.digits-n.result.0 c.digits-n.result.1 m more c.if-end-eq0.true d.value d.stops lt e

pub returns-then-is_padded : goal.returns-then-is_padded
returns-then-is_padded c m more lt ends e =
    let d = c.digits-n.ensures in
    let p = c.if-is_padded.ensures in
    plain_padded c.args.word.now c.digits-n.result.1 m more d.end d.digits p.0 p.1 lt ends e

pub returns-then-not-ends_word : goal.returns-then-not-ends_word
returns-then-not-ends_word c m more lt ends e =
    let d = c.digits-n.ensures in
    let rest : take (length c.args.word.now - c.digits-n.result.1) (drop c.digits-n.result.1 c.args.word.now) ≡ drop c.digits-n.result.1 c.args.word.now = whole c.args.word.now c.digits-n.result.1 in
    plain_goes_on c.args.word.now c.digits-n.result.0 c.digits-n.result.1 m more d.end d.digits d.value d.stops (rw rest at c.if-not-ends_word.ensures) lt ends e

pub returns : goal.returns
returns c =
    let d = c.digits-n.ensures in
    let rest : take (length c.args.word.now - c.digits-n.result.1) (drop c.digits-n.result.1 c.args.word.now) ≡ drop c.digits-n.result.1 c.args.word.now = whole c.args.word.now c.digits-n.result.1 in
    (d.bound, c.if-not-ends_word.ensures, plain_found c.args.word.now c.digits-n.result.0 c.digits-n.result.1 d.end c.if-end-eq0.false d.digits d.value d.bound c.if-is_padded.ensures ∙ ap (λ (t : List ℕ). decimal c.digits-n.result.0 ++ t) (sym rest))
