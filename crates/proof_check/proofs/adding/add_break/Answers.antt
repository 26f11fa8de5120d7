use Rattle.std.proofs.Common.{arith, refl, ◌≡◌, ◌<◌, ◌+◌, ◌-◌, ◌∙◌, ◌∷◌, ℕ, sym, ap, length, get_or}
use Rattle.clause_arena.specs.Clauses.{opposite}
use Rattle.clause_arena.specs.Lits.{code_of}
use Rattle.proof_check.specs.Following.{IsProper}
use Rattle.proof_check.specs.Marks.{IsMarkedUnit, AllMarked}
use Rattle.proof_check.specs.Lives.{live_by}
use Rattle.proof_check.proofs.MarkLemmas.{code_fits, table_set, represent_set}
use Rattle.proof_check.proofs.HintLemmas.{ahead_step, break_none, break_unit, break_end_none, break_end_open, lead_end, false_from, marked_from, unit_from, unit_marked, breaks_is}
use Rattle.proof_check.proofs.adding.add_break.Goals as goal

pub returns-in_default-clause-verdict : goal.returns-in_default-clause-verdict
returns-in_default-clause-verdict c =
    let v = c.args.formula.now.variables in
    let n = length c.args.formula.now.clauses.clauses in
    let lits = c.args.lits.now in
    let hints = c.args.hints.now in
    let live = live_by c.args.formula.now.clauses.clauses c.args.log.now.lines c.args.clauses_live.now c.args.lines_live.now in
    let some : 0 < length hints = grind arith in
    let p = c.if-not-mark_clause.ensures.cases in
    let proper : IsProper v n c.args.id lits hints = record { id_above = omega (arith, c.if-id-len.false, c.len.ensures.len); within = p.0; one_sign = p.1; some_hint = some } in
    let f = c.loop-i.invariant.ahead in
    let i = c.loop-i.i in
    breaks_is v n live c.args.id lits hints i _ proper (break_none live lits hints f.0 i (get_or hints i 0) f.2 (omega arith) refl (sym c.in_default.ensures.live)) (omega arith)

pub returns-in_default-unit_of-clause-verdict : goal.returns-in_default-unit_of-clause-verdict
returns-in_default-unit_of-clause-verdict c =
    let v = c.args.formula.now.variables in
    let n = length c.args.formula.now.clauses.clauses in
    let lits = c.args.lits.now in
    let hints = c.args.hints.now in
    let live = live_by c.args.formula.now.clauses.clauses c.args.log.now.lines c.args.clauses_live.now c.args.lines_live.now in
    let some : 0 < length hints = grind arith in
    let p = c.if-not-mark_clause.ensures.cases in
    let proper : IsProper v n c.args.id lits hints = record { id_above = omega (arith, c.if-id-len.false, c.len.ensures.len); within = p.0; one_sign = p.1; some_hint = some } in
    let f = c.loop-i.invariant.ahead in
    let i = c.loop-i.i in
    let none = c.in_default-unit_of.ensures in
    breaks_is v n live c.args.id lits hints i _ proper (break_unit live lits hints f.0 i (get_or hints i 0) c.in-Some.clause.now f.2 (omega arith) refl (sym c.in-Some.ensures.live)
    (λ l u. none l (rw c.deref.ensures.value (unit_marked v c.loop-i.marks.items c.args.stamp f.0 c.in-Some.clause.now l f.1 c.in-Some.ensures.within u)))) (omega arith)

pub index_mut-requires : goal.index_mut-requires
index_mut-requires c =
    let unit = c.in-Some-unit_of.unit in
    let u : IsMarkedUnit c.loop-i.marks.items c.args.stamp c.in-Some.clause.now unit = rw c.deref.ensures.value at c.in-Some-unit_of.ensures in
    let code : c.code.result ≡ code_of (opposite unit) = c.code.ensures.same ∙ ap code_of c.negated.ensures in
    let fits : code_of (opposite unit) < length c.loop-i.marks.items = omega (arith, code_fits c.args.formula.now.variables (opposite unit) (c.in-Some.ensures.within unit u.open_alone.holds), c.loop-i.invariant.table.size) in
    omega (arith, fits, code)

pub loop-i-preserved : goal.loop-i-preserved
loop-i-preserved c =
    let v = c.args.formula.now.variables in
    let n = length c.args.formula.now.clauses.clauses in
    let lits = c.args.lits.now in
    let hints = c.args.hints.now in
    let live = live_by c.args.formula.now.clauses.clauses c.args.log.now.lines c.args.clauses_live.now c.args.lines_live.now in
    let some : 0 < length hints = grind arith in
    let p = c.if-not-mark_clause.ensures.cases in
    let proper : IsProper v n c.args.id lits hints = record { id_above = omega (arith, c.if-id-len.false, c.len.ensures.len); within = p.0; one_sign = p.1; some_hint = some } in
    let f = c.loop-i.invariant.ahead in
    let i = c.loop-i.i in
    let unit = c.in-Some-unit_of.unit in
    let u : IsMarkedUnit c.loop-i.marks.items c.args.stamp c.in-Some.clause.now unit = rw c.deref.ensures.value at c.in-Some-unit_of.ensures in
    let code : c.code.result ≡ code_of (opposite unit) = c.code.ensures.same ∙ ap code_of c.negated.ensures in
    let fits : code_of (opposite unit) < length c.loop-i.marks.items = omega (arith, code_fits c.args.formula.now.variables (opposite unit) (c.in-Some.ensures.within unit u.open_alone.holds), c.loop-i.invariant.table.size) in
    rw code (record {
      table = table_set v c.loop-i.marks.items c.args.stamp (code_of (opposite unit)) c.loop-i.invariant.table fits;
      ahead = (
        opposite unit ∷ f.0,
        represent_set v c.loop-i.marks.items c.args.stamp f.0 (opposite unit) fits f.1,
        ahead_step live lits hints f.0 i (get_or hints i 0) c.in-Some.clause.now unit f.2 (omega arith) refl (sym c.in-Some.ensures.live) (unit_from v c.loop-i.marks.items c.args.stamp f.0 c.in-Some.clause.now unit f.1 c.in-Some.ensures.within u),
      );
    })

pub returns-in_default-live_clause-clause-verdict : goal.returns-in_default-live_clause-clause-verdict
returns-in_default-live_clause-clause-verdict c =
    let v = c.args.formula.now.variables in
    let n = length c.args.formula.now.clauses.clauses in
    let lits = c.args.lits.now in
    let hints = c.args.hints.now in
    let live = live_by c.args.formula.now.clauses.clauses c.args.log.now.lines c.args.clauses_live.now c.args.lines_live.now in
    let some : 0 < length hints = grind arith in
    let p = c.if-not-mark_clause.ensures.cases in
    let proper : IsProper v n c.args.id lits hints = record { id_above = omega (arith, c.if-id-len.false, c.len.ensures.len); within = p.0; one_sign = p.1; some_hint = some } in
    let f = c.loop-i.invariant.ahead in
    let i = c.loop-i.i in
    let e : length hints - 1 ≡ i = omega arith in
    let h = get_or hints (length hints - 1) 0 in
    let here : h ≡ get_or hints i 0 = ap (λ (k : ℕ). get_or hints k 0) e in
    let whole : i + 1 ≡ length hints = omega arith in
    breaks_is v n live c.args.id lits hints i _ proper (break_end_none live lits hints f.0 i h f.2 whole here (sym c.in_default-live_clause.ensures.live)) (omega arith)

pub returns-then-all_false-clause-verdict : goal.returns-then-all_false-clause-verdict
returns-then-all_false-clause-verdict c =
    let v = c.args.formula.now.variables in
    let n = length c.args.formula.now.clauses.clauses in
    let lits = c.args.lits.now in
    let hints = c.args.hints.now in
    let live = live_by c.args.formula.now.clauses.clauses c.args.log.now.lines c.args.clauses_live.now c.args.lines_live.now in
    let some : 0 < length hints = grind arith in
    let p = c.if-not-mark_clause.ensures.cases in
    let proper : IsProper v n c.args.id lits hints = record { id_above = omega (arith, c.if-id-len.false, c.len.ensures.len); within = p.0; one_sign = p.1; some_hint = some } in
    let f = c.loop-i.invariant.ahead in
    let i = c.loop-i.i in
    let e : length hints - 1 ≡ i = omega arith in
    let h = get_or hints (length hints - 1) 0 in
    let here : h ≡ get_or hints i 0 = ap (λ (k : ℕ). get_or hints k 0) e in
    let whole : i + 1 ≡ length hints = omega arith in
    let all = c.if-all_false.ensures in
    let clause = c.in-Some-live_clause.clause.now in
    let marked : AllMarked c.loop-i.marks.items c.args.stamp clause = rw c.deref-2.ensures.value at all in
    (proper, lead_end live lits hints f.0 i h clause f.2 whole here (sym c.in-Some-live_clause.ensures.live) (false_from v c.loop-i.marks.items c.args.stamp f.0 clause f.1 c.in-Some-live_clause.ensures.within marked))

pub returns-else-all_false-clause-verdict : goal.returns-else-all_false-clause-verdict
returns-else-all_false-clause-verdict c =
    let v = c.args.formula.now.variables in
    let n = length c.args.formula.now.clauses.clauses in
    let lits = c.args.lits.now in
    let hints = c.args.hints.now in
    let live = live_by c.args.formula.now.clauses.clauses c.args.log.now.lines c.args.clauses_live.now c.args.lines_live.now in
    let some : 0 < length hints = grind arith in
    let p = c.if-not-mark_clause.ensures.cases in
    let proper : IsProper v n c.args.id lits hints = record { id_above = omega (arith, c.if-id-len.false, c.len.ensures.len); within = p.0; one_sign = p.1; some_hint = some } in
    let f = c.loop-i.invariant.ahead in
    let i = c.loop-i.i in
    let e : length hints - 1 ≡ i = omega arith in
    let h = get_or hints (length hints - 1) 0 in
    let here : h ≡ get_or hints i 0 = ap (λ (k : ℕ). get_or hints k 0) e in
    let whole : i + 1 ≡ length hints = omega arith in
    let all = c.if-all_false.ensures in
    let clause = c.in-Some-live_clause.clause.now in
    breaks_is v n live c.args.id lits hints i _ proper (break_end_open live lits hints f.0 i h clause f.2 whole here (sym c.in-Some-live_clause.ensures.live)
    (λ falses. all (rw c.deref-2.ensures.value (marked_from v c.loop-i.marks.items c.args.stamp f.0 clause f.1 c.in-Some-live_clause.ensures.within falses)))) (omega arith)
