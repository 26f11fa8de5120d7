use Rattle.std.proofs.Common.{arith, ◌≡◌, ◌<◌, ◌≤◌, ◌∙◌, sym, ap, slice_index_or, take, length, subst}
use Rattle.std.proofs.lemmas.List.{take_all}
use Rattle.clause_arena.specs.Clauses.{opposite}
use Rattle.clause_arena.specs.Lits.{code_of}
use Rattle.proof_check.specs.Marks.{Marked, Within, Represent}
use Rattle.proof_check.specs.Proper.{IsOneSigned}
use Rattle.proof_check.proofs.LogLemmas.{any_default}
use Rattle.proof_check.proofs.MarkLemmas.{in_here, in_front, code_fits, table_set, within_more, signed_more, represent_more}
use Rattle.proof_check.proofs.marks.mark_clause.Goals.{then-var-variables-via-then-var-variables, then-var-variables-via-else-var-variables+then-index-stamp}
use Rattle.proof_check.proofs.marks.mark_clause.Goals as goal

pub returns-then-var-variables-clause-cases : goal.returns-then-var-variables-clause-cases
returns-then-var-variables-clause-cases c within one =
    let x = c.lit-item.result in
    let i = in_here c.args.lits.now c.loop-lit.lit-index x c.loop-lit-test.true c.lit-item.is in
    elim c.then-var-variables.branch [
      | then-var-variables-via-then-var-variables w ↦ omega (arith, within x i, w.if-var-variables.true, c.var.ensures.same)
      | then-var-variables-via-else-var-variables+then-index-stamp w ↦
          let code : w.code.result ≡ code_of (opposite x) = w.code.ensures.same ∙ ap code_of w.negated.ensures in
          let fits : w.code.result < length c.loop-lit.marks.items = omega (arith, code, code_fits c.args.variables (opposite x) (within x i), c.loop-lit.invariant.table.size) in
          let here : Marked c.loop-lit.marks.items c.args.stamp (opposite x) = ap (λ n. slice_index_or c.loop-lit.marks.items n 0) (sym code) ∙ any_default c.loop-lit.marks.items w.code.result 0 w.index.result.now fits ∙ sym w.index.ensures ∙ w.if-index-stamp.true in
          one x i (in_front c.args.lits.now c.loop-lit.lit-index (opposite x) (c.loop-lit.invariant.represent.only (opposite x) (within x i) here))
    ]

pub loop-lit-preserved : goal.loop-lit-preserved
loop-lit-preserved c =
    let x = c.lit-item.result in
    let k = c.loop-lit.lit-index in
    let le : x.var ≤ c.args.variables = omega (arith, c.if-var-variables.false, c.var.ensures.same) in
    let code : c.code.result ≡ code_of (opposite x) = c.code.ensures.same ∙ ap code_of c.negated.ensures in
    let fits : c.code.result < length c.loop-lit.marks.items = omega (arith, code, code_fits c.args.variables (opposite x) le, c.loop-lit.invariant.table.size) in
    let own : code_of x < length c.loop-lit.marks.items = omega (arith, code_fits c.args.variables x le, c.loop-lit.invariant.table.size) in
    rw c.code-in-loop-lit.ensures.same (record {
      table = table_set c.args.variables c.loop-lit.marks.items c.args.stamp (code_of x) c.loop-lit.invariant.table own;
      within = within_more c.args.variables c.args.lits.now k x c.loop-lit-test.true c.lit-item.is le c.loop-lit.invariant.within;
      one_signed = signed_more c.args.variables c.loop-lit.marks.items c.args.stamp c.args.lits.now k x c.loop-lit-test.true c.lit-item.is le c.loop-lit.invariant.represent
          (λ m. c.if-index-stamp.false (c.index.ensures ∙ any_default c.loop-lit.marks.items c.code.result c.index.result.now 0 fits ∙ ap (λ n. slice_index_or c.loop-lit.marks.items n 0) code ∙ m)) c.loop-lit.invariant.one_signed;
      represent = represent_more c.args.variables c.loop-lit.marks.items c.args.stamp c.args.lits.now k x c.loop-lit-test.true c.lit-item.is own c.loop-lit.invariant.represent;
    })

pub returns-clause-cases : goal.returns-clause-cases
returns-clause-cases c =
    let whole : take c.loop-lit.lit-index c.args.lits.now ≡ c.args.lits.now = take_all c.loop-lit.lit-index c.args.lits.now c.loop-lit-test.false in
    (subst (Within c.args.variables) whole c.loop-lit.invariant.within, subst IsOneSigned whole c.loop-lit.invariant.one_signed, subst (Represent c.args.variables c.loop-lit.marks.items c.args.stamp) whole c.loop-lit.invariant.represent)
