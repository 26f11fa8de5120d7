use Rattle.std.proofs.Common.{◌≡◌, ◌<◌, nat_eq, true, false, sym, ap, ◌∙◌, inl, inr, arith, length, slice_index_or}
use Rattle.std.proofs.lemmas.List.{get_or_read}
use Rattle.std.proofs.lemmas.Bool.{cases_eq, eq-eqb, ne_eqb}
use Rattle.clause_arena.specs.Clauses.{opposite}
use Rattle.clause_arena.specs.Lits.{code_of}
use Rattle.sat_engine.proofs.CopyLemmas.{copies_push, represent_last}
use Rattle.sat_engine.proofs.copy.copy_one.Goals as goal

pub returns-clause-copied : goal.returns-clause-copied
returns-clause-copied c =
    let lit = c.args.lit in
    let old = c.args.into.now.items in
    let marks = c.args.marks.now.items in
    let here : c.code-code.result < length marks = omega arith in
    let there : c.code-other.result < length marks = omega (arith, c.code-other.ensures.upper, ap (λ l. l.var) c.negated.ensures) in
    let read : c.index.result.now ≡ slice_index_or marks (code_of lit) 0 = get_or_read marks c.code-code.result _ here c.index.ensures 0 ∙ ap (λ q. slice_index_or marks q 0) c.code-code.ensures.same in
    let other : c.index-2.result.now ≡ slice_index_or marks (code_of (opposite lit)) 0 = get_or_read marks c.code-other.result _ there c.index-2.ensures 0 ∙ ap (λ q. slice_index_or marks q 0) (c.code-other.ensures.same ∙ ap code_of c.negated.ensures) in
    rw c.in_ok-push.ensures.items (copies_push old lit (nat_eq c.index-2.result.now c.args.stamp)
    (λ i. c.if-index-stamp.false (read ∙ c.requires.marked.marked lit c.requires.within i))
    (λ e. elim (cases_eq c.index-2.result.now c.args.stamp) [
      | inl same ↦ c.requires.marked.only (opposite lit) c.requires.within (sym other ∙ same)
      | inr differ ↦ absurd (let no : true ≡ false = sym e ∙ ne_eqb c.index-2.result.now c.args.stamp differ in cc)
    ])
    (λ e i. let no : true ≡ false = sym (eq-eqb c.index-2.result.now c.args.stamp (other ∙ c.requires.marked.marked (opposite lit) c.requires.within i)) ∙ e in cc))

pub returns-clause-marked : goal.returns-clause-marked
returns-clause-marked c =
    let here : c.code-code.result < length c.args.marks.now.items = omega arith in
    rw (c.in_ok-push.ensures.items, c.code-code.ensures.same) (represent_last c.args.variables c.args.marks.now.items c.args.stamp c.args.into.now.items c.args.lit (omega (arith, here, c.code-code.ensures.same)) c.requires.marked)
