use Rattle.std.proofs.Common.{[], ◌∷◌}
use Rattle.std.specs.Prelude.{codes}
use Rattle.std.specs.Fmt.{decimal}
use Rattle.text_rows.specs.Words.{tokens}
use Rattle.dimacs_text.proofs.EntryLemmas.{tails}
use Rattle.dimacs_text.proofs.cnf.read_header.Goals as goal

pub returns-in_default-number-2 : goal.returns-in_default-number-2
returns-in_default-number-2 c v n lv ln e =
    let one = tails (codes "p") (codes "p") (tokens c.in-Some.rest.now) (codes "cnf" ∷ decimal v ∷ decimal n ∷ []) (tokens c.args.line.now) c.in-Some.ensures.words e in
    let two = tails (codes "cnf") (codes "cnf") (tokens c.in-Some-after_word.words.now) (decimal v ∷ decimal n ∷ []) (tokens c.in-Some.rest.now) c.in-Some-after_word.ensures.words one in
    let three = tails (decimal c.in-Some-number.variables) (decimal v) (tokens c.in-Some-number.after.now) (decimal n ∷ []) (tokens c.in-Some-after_word.words.now) c.in-Some-number.ensures.words.1 two in
    c.in_default-number-2.ensures.words n [] ln three
