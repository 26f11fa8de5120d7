use Rattle.std.proofs.Common.{arith, ◌∙◌, ap, slice_index_or}
use Rattle.proof_check.proofs.MarkLemmas.{in_here, code_fits, all_more}
use Rattle.proof_check.proofs.marks.all_false.Goals as goal

pub bounds-marks-code : goal.bounds-marks-code
bounds-marks-code c =
    let i = in_here c.args.lits.now c.loop-lit.lit-index c.lit-item.result c.loop-lit-test.true c.lit-item.is in
    omega (arith, c.code.ensures.same, c.requires.table.size, code_fits c.args.variables c.lit-item.result (c.requires.within c.lit-item.result i))

pub returns-then-marks-code : goal.returns-then-marks-code
returns-then-marks-code c all =
    c.if-marks-code.true (ap (λ n. slice_index_or c.args.marks.now n 0) c.code.ensures.same ∙ all c.lit-item.result (in_here c.args.lits.now c.loop-lit.lit-index c.lit-item.result c.loop-lit-test.true c.lit-item.is))

pub loop-lit-preserved : goal.loop-lit-preserved
loop-lit-preserved c =
    all_more c.args.marks.now c.args.stamp c.args.lits.now c.loop-lit.lit-index c.lit-item.result c.loop-lit-test.true c.lit-item.is c.loop-lit.invariant (rw c.code.ensures.same at c.if-marks-code.false)
