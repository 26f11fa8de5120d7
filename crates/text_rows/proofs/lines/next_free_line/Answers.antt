use Rattle.std.proofs.Common.{arith, ◌<◌, ◌+◌, ◌∷◌, ◌∙◌, ℕ, List, ap, sym, length, drop, get_or}
use Rattle.std.proofs.lemmas.Grind.{common_steps}
use Rattle.std.proofs.lemmas.Bool.{eq-eqb, eqb-true}
use Rattle.text_rows.specs.Lines.{free_lines}
use Rattle.text_rows.proofs.PlainLemmas.{whole}
use Rattle.text_rows.proofs.LineLemmas.{first_at, first_of_one}
use Rattle.text_rows.proofs.lines.next_free_line.Goals as goal

pub returns-in-Some-clause-lines : goal.returns-in-Some-clause-lines
returns-in-Some-clause-lines c =
    let bytes = c.args.bytes.now in
    let end = c.in-Some.end in
    let m = c.in-Some.ensures in
    let e = first_at bytes end m.0.high (λ k l h. m.0.before k (omega arith) l (eq-eqb (get_or bytes k 0) 10 h)) (eqb-true (get_or bytes end 0) 10 m.1) in
    e ∙ (ap (λ (t : List ℕ). t ∷ free_lines (drop (end + 1) bytes)) (sym c.without_return.ensures.line)
    ∙ ap (λ (t : List ℕ). c.without_return.result.now ∷ free_lines t) (sym (whole bytes (end + 1))))

pub returns-in-None-clause-lines : goal.returns-in-None-clause-lines
returns-in-None-clause-lines c =
    let bytes = c.args.bytes.now in
    let some : 0 < length bytes = grind arith in
    grind (arith, common_steps, first_of_one bytes some (λ k l h. c.in-None.ensures k (omega arith) l (eq-eqb (get_or bytes k 0) 10 h)))
