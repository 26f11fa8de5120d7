use Rattle.std.proofs.Common.{arith, sym, length, eqb, eq-eqb}
use Rattle.std.proofs.lemmas.List.Sums.{position_or_len_is}
use Rattle.line_text.proofs.lines.first_place.Goals as goal

pub returns-then-b-byte : goal.returns-then-b-byte
returns-then-b-byte c = sym (position_or_len_is (λ b. eqb b c.args.byte) c.args.bytes.now c.loop-i.i 0 (omega arith) c.loop-i.invariant (λ _. eq-eqb _ _ c.if-b-byte.true))

pub returns : goal.returns
returns c = sym (position_or_len_is (λ b. eqb b c.args.byte) c.args.bytes.now (length c.args.bytes.now) 0 (omega arith) (λ k lt. c.loop-i.invariant k (omega arith)) (λ lt. absurd (omega arith)))
