use Rattle.std.proofs.Common.{◌∙◌, sym, []}
use Rattle.std.specs.Fmt.{decimal}
use Rattle.std.proofs.lemmas.List.{append-nil}
use Rattle.text_rows.proofs.PlainLemmas.{none_behind}
use Rattle.text_rows.proofs.words.whole_number.Goals as goal

pub returns-in_err-n : goal.returns-in_err-n
returns-in_err-n c = rw c.from_residual.ensures (λ n lt e. c.in_err-n.ensures n [] lt tt (e ∙ sym (append-nil (decimal n))))

pub returns-else-is_empty : goal.returns-else-is_empty
returns-else-is_empty c n lt e =
    let found = c.in_ok-n.ensures in
    none_behind n c.in_ok-n.n c.in_ok-n.rest.now lt found.0 found.1 (sym e ∙ found.2) c.if-is_empty.ensures
