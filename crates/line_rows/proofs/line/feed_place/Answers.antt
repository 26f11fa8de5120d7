use Rattle.std.proofs.Common.{arith, sym, length, eqb, get_or}
use Rattle.std.proofs.lemmas.Bool.{ne_eqb, eq-eqb}
use Rattle.std.proofs.lemmas.List.Sums.{position_or_len_is}
use Rattle.line_rows.proofs.line.feed_place.Goals as goal

pub returns-in-Some : goal.returns-in-Some
returns-in-Some c =
    let m = c.in-Some.ensures in
    sym (position_or_len_is (λ b. eqb b 10) c.args.bytes.now c.in-Some.place 0 (omega (arith, m.0.high)) (λ k lt. ne_eqb (get_or c.args.bytes.now k 0) 10 (λ e. m.0.before k (omega arith) lt (eq-eqb _ _ e))) (λ _. m.1))

pub returns-in-None : goal.returns-in-None
returns-in-None c =
    sym (position_or_len_is (λ b. eqb b 10) c.args.bytes.now (length c.args.bytes.now) 0 (omega arith) (λ k lt. ne_eqb (get_or c.args.bytes.now k 0) 10 (λ e. c.in-None.ensures k (omega arith) lt (eq-eqb _ _ e))) (λ lt. absurd (omega arith)))
