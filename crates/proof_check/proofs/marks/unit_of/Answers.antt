use Rattle.std.proofs.Common.{arith, ◌∙◌, sym, ap, slice_index_or, take}
use Rattle.clause_arena.specs.Clauses.{opposite}
use Rattle.clause_arena.specs.Lits.{code_of}
use Rattle.proof_check.specs.Marks.{IsOpen}
use Rattle.proof_check.proofs.MarkLemmas.{in_here, in_front, code_fits, two_open, open_first, open_again, front_more}
use Rattle.proof_check.proofs.marks.unit_of.Goals.{then-marks-code+in-None, then-marks-code+in-Some+else-code, else-marks-code}
use Rattle.proof_check.proofs.marks.unit_of.Goals as goal

pub bounds-marks-code : goal.bounds-marks-code
bounds-marks-code c =
    let i = in_here c.args.lits.now c.loop-lit.lit-index c.lit-item.result c.loop-lit-test.true c.lit-item.is in
    omega (arith, c.code-code.ensures.same, c.requires.table.size, code_fits c.args.variables c.lit-item.result (c.requires.within c.lit-item.result i))

pub returns-then-code : goal.returns-then-code
returns-then-code c l h =
    let o : IsOpen c.args.marks.now c.args.stamp (take c.loop-lit.lit-index c.args.lits.now) c.in-Some.first = rw c.in-Some.is at c.loop-lit.invariant in
    two_open c.args.marks.now c.args.stamp c.args.lits.now l c.in-Some.first c.lit-item.result
    (in_front c.args.lits.now c.loop-lit.lit-index c.in-Some.first o.holds)
    (in_here c.args.lits.now c.loop-lit.lit-index c.lit-item.result c.loop-lit-test.true c.lit-item.is)
    o.not_false
    (λ m. c.if-marks-code.true (ap (λ n. slice_index_or c.args.marks.now n 0) c.code-code.ensures.same ∙ m))
    (λ e. c.if-code.true (c.code.ensures.same ∙ e ∙ sym c.code-code.ensures.same))
    h.open_alone

pub loop-lit-preserved : goal.loop-lit-preserved
loop-lit-preserved c =
    let i = c.loop-lit.lit-index in
    let x = c.lit-item.result in
    elim c.if-marks-code.branch [
      | then-marks-code+in-None w ↦ rw w.unit-is (open_first c.args.marks.now c.args.stamp c.args.lits.now i x c.loop-lit-test.true c.lit-item.is (rw w.in-None.is at c.loop-lit.invariant) (λ m. w.if-marks-code.true (ap (λ n. slice_index_or c.args.marks.now n 0) c.code-code.ensures.same ∙ m)))
      | then-marks-code+in-Some+else-code w ↦ rw w.unit-is (open_again c.args.marks.now c.args.stamp c.args.lits.now i x w.in-Some.first c.loop-lit-test.true c.lit-item.is (rw w.in-Some.is at c.loop-lit.invariant) (sym w.code.ensures.same ∙ w.if-code.false ∙ c.code-code.ensures.same))
      | else-marks-code w ↦ rw w.unit-is (front_more c.args.marks.now c.args.stamp c.args.lits.now i x c.loop-lit-test.true c.lit-item.is (rw c.code-code.ensures.same at w.if-marks-code.false) c.loop-lit.unit c.loop-lit.invariant)
    ]

pub bounds-marks-code-2 : goal.bounds-marks-code-2
bounds-marks-code-2 c =
    let o : IsOpen c.args.marks.now c.args.stamp (take c.loop-lit.lit-index c.args.lits.now) c.in-Some-unit.alone = rw c.in-Some-unit.is at c.loop-lit.invariant in
    let le = c.requires.within c.in-Some-unit.alone (in_front c.args.lits.now c.loop-lit.lit-index c.in-Some-unit.alone o.holds) in
    omega (arith, c.code-2.ensures.same, ap code_of c.negated.ensures, c.requires.table.size, code_fits c.args.variables (opposite c.in-Some-unit.alone) le)
