use Rattle.std.proofs.Common.{arith, ◌-◌, get_or, refl}
use Rattle.text_rows.proofs.Numbers.{more_digits}
use Rattle.text_rows.proofs.words.digits.Goals as goal

pub loop-i-preserved : goal.loop-i-preserved
loop-i-preserved c =
    let word = c.args.word.now in
    let i = c.loop-i.i in
    let more = more_digits word i c.loop-i.n (get_or word i 0 - 48) c.loop-i-test.true (c.if-b-lt48.false, c.if-b-gt57.false) refl c.loop-i.invariant.digits c.loop-i.invariant.value in
    record { digits = more.0; value = more.1; bound = omega arith; within = omega arith }
