use Rattle.std.proofs.Common.{arith, ◌<◌, ◌+◌, length, get_or, inl, inr}
use Rattle.std.proofs.lemmas.Grind.{common_steps}
use Rattle.std.specs.Int.{IsInRange}
use Rattle.line_rows.proofs.Numbers.{not_empty, no_zero_first, all_digits, front_below, zero_is_spelled, more_digits, number_whole, number_is}
use Rattle.line_rows.proofs.words.number_by_digits.Goals as goal

pub returns-then-is_empty : goal.returns-then-is_empty
returns-then-is_empty c v lt e = grind (arith, not_empty c.args.word.now v)

pub returns-then-bound-gt0 : goal.returns-then-bound-gt0
returns-then-bound-gt0 c = (omega arith, zero_is_spelled c.args.word.now c.if-word-eq1.true c.if-word-eq48.true)

pub returns-else-word-eq1 : goal.returns-else-word-eq1
returns-else-word-eq1 c v lt e =
    let some : 0 < length c.args.word.now = grind arith in
    elim c.else-word-eq1.either [
      | inl h ↦ absurd (omega arith)
      | inr h ↦ no_zero_first c.args.word.now v (omega arith) (omega arith) c.if-word-eq48.true e
    ]

pub returns-then-not-is_ascii_digit : goal.returns-then-not-is_ascii_digit
returns-then-not-is_ascii_digit c v lt e =
    let h : IsInRange 48 57 (get_or c.args.word.now c.loop-b.b-index 0) = all_digits c.args.word.now v c.loop-b.b-index (omega arith) c.loop-b-test.true e in
    grind (arith, common_steps)

pub returns-then-n-digit : goal.returns-then-n-digit
returns-then-n-digit c v lt e =
    let word = c.args.word.now in
    let i = c.loop-b.b-index in
    let digit : IsInRange 48 57 (get_or word i 0) = grind (arith, common_steps) in
    let more = more_digits word i c.loop-b.n c.from-digit.result c.loop-b-test.true digit c.from-digit.ensures c.loop-b.invariant.digits c.loop-b.invariant.value in
    omega (arith, more.1, front_below word v (i + 1) (omega arith) e, c.ranges.bound.fits)

pub loop-b-preserved : goal.loop-b-preserved
loop-b-preserved c =
    let word = c.args.word.now in
    let i = c.loop-b.b-index in
    let digit : IsInRange 48 57 (get_or word i 0) = grind (arith, common_steps) in
    let more = more_digits word i c.loop-b.n c.from-digit.result c.loop-b-test.true digit c.from-digit.ensures c.loop-b.invariant.digits c.loop-b.invariant.value in
    record { digits = more.0; value = more.1 }

pub returns-then-n-bound : goal.returns-then-n-bound
returns-then-n-bound c =
    let some : 0 < length c.args.word.now = grind arith in
    (c.if-n-bound.true, number_whole c.args.word.now c.loop-b.b-index c.loop-b.n c.loop-b-test.false some c.if-word-eq48.false (omega arith) c.loop-b.invariant.digits c.loop-b.invariant.value)

pub returns-else-n-bound : goal.returns-else-n-bound
returns-else-n-bound c v lt e = absurd (omega (arith, number_is c.args.word.now c.loop-b.b-index c.loop-b.n v c.loop-b-test.false (omega arith) c.loop-b.invariant.value e))
