use Rattle.std.proofs.Common.{arith, ◌+◌, ◌-◌, ◌/◌}
use Rattle.proof_check.proofs.log.place_of.Goals as goal

pub loop-low-preserved-then-records-middle : goal.loop-low-preserved-then-records-middle
loop-low-preserved-then-records-middle c =
    let m = c.loop-low.low + (c.loop-low.high - c.loop-low.low) / 2 in
    record {
      within = c.loop-low.invariant.within;
      below = λ k lt n. omega (arith, c.requires.rise k m (omega (arith, lt)) (omega (arith, c.loop-low.invariant.within, c.loop-low-test.true)), c.if-records-middle.true);
      above = c.loop-low.invariant.above;
    }

pub loop-low-preserved : goal.loop-low-preserved
loop-low-preserved c =
    let m = c.loop-low.low + (c.loop-low.high - c.loop-low.low) / 2 in
    record {
      within = omega (arith, c.loop-low.invariant.within, c.loop-low-test.true);
      below = c.loop-low.invariant.below;
      above = λ k le n. omega (arith, c.requires.rise m k le n, c.if-records-middle.false);
    }
