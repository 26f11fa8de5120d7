use Rattle.std.proofs.Common.{◌≡◌, suc, ◌-◌, ◌<◌, true, false, length, slice_set, subst, sym, ap, ◌∙◌, inl, inr, arith}
use Rattle.std.proofs.lemmas.List.{get_or_read}
use Rattle.clause_arena.specs.Clauses.{Lit}
use Rattle.sat_trail.specs.Trails.{entry_at}
use Rattle.clause_arena.specs.Arenas.{clause_at}
use Rattle.sat_engine.specs.Lessons.{SeenAt, flag, Walking, Gathers, MarksAll}
use Rattle.sat_engine.proofs.MarkLemmas.{open_le, less_gathers, none_open}
use Rattle.sat_engine.proofs.WalkLemmas.{walk_start, walk_skip, walk_resolve, walk_point, loosen, marks_some, gathers_none}
use Rattle.sat_engine.proofs.analyse.walk.Goals as goal
use Rattle.sat_engine.proofs.analyse.walk.Goals.{else-index-via-then-index+else-level_of-level, else-index-via-else-index}

pub mark-requires-clause-gathers : goal.mark-requires-clause-gathers
mark-requires-clause-gathers c = rw c.requires.no_lits (gathers_none c.args.trail.now c.args.work.now.seen.items c.len-count.ensures.valid c.requires.clear)

pub walk-init : goal.walk-init
walk-init c =
    let t = c.args.trail.now in
    let all : MarksAll t c.args.work.now.seen.items c.mark.new.seen.items c.mark.new.others.items (clause_at c.args.arena.now.clauses c.args.conflict) c.in_ok-open.open = subst (λ q. MarksAll t c.args.work.now.seen.items c.mark.new.seen.items c.mark.new.others.items q c.in_ok-open.open) c.clause.ensures c.in_ok-open.ensures in
    let h = c.requires.touches in
    let some = marks_some c.args.arena.now.clauses t c.len-p.ensures.valid c.args.work.now.seen.items c.mark.new.seen.items c.in_ok-open.open h.0 c.mark.new.others.items (clause_at c.args.arena.now.clauses c.args.conflict) c.requires.clear all h.1 h.2 h.3 in
    rw (c.len-p.ensures.same, c.in_ok-push.ensures.items, c.requires.no_hints) (walk_start c.args.arena.now.clauses t c.len-p.ensures.valid c.args.work.now.seen.items c.mark.new.seen.items c.args.conflict c.in_ok-open.open c.mark.new.others.items c.requires.clear c.requires.flags c.requires.is_clause c.requires.is_false all some)

pub returns-in_default-clause-point : goal.returns-in_default-clause-point
returns-in_default-clause-point c =
    let t = c.args.trail.now in
    let r = c.walk.p - 1 in
    let seen = c.walk.work.seen.items in
    let up : c.walk.p ≡ suc r = omega arith in
    let w : Walking c.args.arena.now.clauses t seen (suc r) c.walk.open c.walk.work.lits.items c.walk.work.hints.items = subst (λ k. Walking c.args.arena.now.clauses t seen k c.walk.open c.walk.work.lits.items c.walk.work.hints.items) up c.walk.invariant in
    let rl : r < length t.entries = omega (arith, w.within) in
    let v : (entry_at t.entries r).lit.var ≡ c.var-var.result = sym (ap (λ (l : Lit). l.var) c.lit.ensures) ∙ sym c.var-var.ensures.same in
    let within = c.len-p.ensures.valid.within r rl in
    let in_range : c.var-var.result - 1 < length seen = omega (arith, w.analysing.fits, within.0, within.1, v) in
    let read : flag seen (entry_at t.entries r).lit.var ≡ c.index.result.now = ap (flag seen) v ∙ sym (get_or_read seen (c.var-var.result - 1) _ in_range c.index.ensures false) in
    let here : SeenAt t.entries seen r = read ∙ c.if-index.true in
    let level : (entry_at t.entries r).level ≡ t.level = sym (c.level_of.ensures r rl v) ∙ c.if-level_of-level.true ∙ c.level.ensures in
    let reason = c.reason_of.ensures r rl v in
    walk_point c.args.arena.now.clauses t c.len-p.ensures.valid seen r c.walk.open c.walk.work.lits.items c.walk.work.hints.items w c.requires.explained level here (inr (sym reason ∙ c.in_default.is))

pub returns-in_default-clause-analysing : goal.returns-in_default-clause-analysing
returns-in_default-clause-analysing c = loosen c.args.arena.now.clauses c.args.trail.now c.len-p.ensures.valid c.walk.work.seen.items _ _ c.walk.work.lits.items _ c.walk.invariant.analysing

pub returns-then-open-le1-clause-point : goal.returns-then-open-le1-clause-point
returns-then-open-le1-clause-point c =
    let t = c.args.trail.now in
    let r = c.walk.p - 1 in
    let seen = c.walk.work.seen.items in
    let up : c.walk.p ≡ suc r = omega arith in
    let w : Walking c.args.arena.now.clauses t seen (suc r) c.walk.open c.walk.work.lits.items c.walk.work.hints.items = subst (λ k. Walking c.args.arena.now.clauses t seen k c.walk.open c.walk.work.lits.items c.walk.work.hints.items) up c.walk.invariant in
    let rl : r < length t.entries = omega (arith, w.within) in
    let v : (entry_at t.entries r).lit.var ≡ c.var-var.result = sym (ap (λ (l : Lit). l.var) c.lit.ensures) ∙ sym c.var-var.ensures.same in
    let within = c.len-p.ensures.valid.within r rl in
    let in_range : c.var-var.result - 1 < length seen = omega (arith, w.analysing.fits, within.0, within.1, v) in
    let read : flag seen (entry_at t.entries r).lit.var ≡ c.index.result.now = ap (flag seen) v ∙ sym (get_or_read seen (c.var-var.result - 1) _ in_range c.index.ensures false) in
    let here : SeenAt t.entries seen r = read ∙ c.if-index.true in
    let level : (entry_at t.entries r).level ≡ t.level = sym (c.level_of.ensures r rl v) ∙ c.if-level_of-level.true ∙ c.level.ensures in
    let reason = c.reason_of.ensures r rl v in
    walk_point c.args.arena.now.clauses t c.len-p.ensures.valid seen r c.walk.open c.walk.work.lits.items c.walk.work.hints.items w c.requires.explained level here (inl c.if-open-le1.true)

pub returns-then-open-le1-clause-analysing : goal.returns-then-open-le1-clause-analysing
returns-then-open-le1-clause-analysing c = loosen c.args.arena.now.clauses c.args.trail.now c.len-p.ensures.valid c.walk.work.seen.items _ _ c.walk.work.lits.items _ c.walk.invariant.analysing

pub mark-requires-then-level_of-level-clause-gathers : goal.mark-requires-then-level_of-level-clause-gathers
mark-requires-then-level_of-level-clause-gathers c =
    let t = c.args.trail.now in
    let r = c.walk.p - 1 in
    let seen = c.walk.work.seen.items in
    let up : c.walk.p ≡ suc r = omega arith in
    let w : Walking c.args.arena.now.clauses t seen (suc r) c.walk.open c.walk.work.lits.items c.walk.work.hints.items = subst (λ k. Walking c.args.arena.now.clauses t seen k c.walk.open c.walk.work.lits.items c.walk.work.hints.items) up c.walk.invariant in
    let rl : r < length t.entries = omega (arith, w.within) in
    let v : (entry_at t.entries r).lit.var ≡ c.var-var.result = sym (ap (λ (l : Lit). l.var) c.lit.ensures) ∙ sym c.var-var.ensures.same in
    let within = c.len-p.ensures.valid.within r rl in
    let in_range : c.var-var.result - 1 < length seen = omega (arith, w.analysing.fits, within.0, within.1, v) in
    let read : flag seen (entry_at t.entries r).lit.var ≡ c.index.result.now = ap (flag seen) v ∙ sym (get_or_read seen (c.var-var.result - 1) _ in_range c.index.ensures false) in
    let here : SeenAt t.entries seen r = read ∙ c.if-index.true in
    let level : (entry_at t.entries r).level ≡ t.level = sym (c.level_of.ensures r rl v) ∙ c.if-level_of-level.true ∙ c.level.ensures in
    let reason = c.reason_of.ensures r rl v in
    subst (λ q. Gathers t (slice_set seen (q - 1) false) c.walk.work.lits.items) v (less_gathers t c.len-p.ensures.valid seen w.analysing.fits r rl here c.walk.work.lits.items (λ high low. omega (arith, low, level)) w.analysing.gathers)

pub overflow_add-open : goal.overflow_add-open
overflow_add-open c =
    let t = c.args.trail.now in
    let r = c.walk.p - 1 in
    let seen = c.walk.work.seen.items in
    let up : c.walk.p ≡ suc r = omega arith in
    let w : Walking c.args.arena.now.clauses t seen (suc r) c.walk.open c.walk.work.lits.items c.walk.work.hints.items = subst (λ k. Walking c.args.arena.now.clauses t seen k c.walk.open c.walk.work.lits.items c.walk.work.hints.items) up c.walk.invariant in
    let rl : r < length t.entries = omega (arith, w.within) in
    let v : (entry_at t.entries r).lit.var ≡ c.var-var.result = sym (ap (λ (l : Lit). l.var) c.lit.ensures) ∙ sym c.var-var.ensures.same in
    let within = c.len-p.ensures.valid.within r rl in
    let in_range : c.var-var.result - 1 < length seen = omega (arith, w.analysing.fits, within.0, within.1, v) in
    let read : flag seen (entry_at t.entries r).lit.var ≡ c.index.result.now = ap (flag seen) v ∙ sym (get_or_read seen (c.var-var.result - 1) _ in_range c.index.ensures false) in
    let here : SeenAt t.entries seen r = read ∙ c.if-index.true in
    let level : (entry_at t.entries r).level ≡ t.level = sym (c.level_of.ensures r rl v) ∙ c.if-level_of-level.true ∙ c.level.ensures in
    let reason = c.reason_of.ensures r rl v in
    let id = c.in-Some.id in
    let all0 : MarksAll t (slice_set seen (c.var-var.result - 1) false) c.mark-then-level_of-level.new.seen.items c.mark-then-level_of-level.new.others.items (clause_at c.args.arena.now.clauses id) c.in_ok-open-2.field-0 = subst (λ q. MarksAll t (slice_set seen (c.var-var.result - 1) false) c.mark-then-level_of-level.new.seen.items c.mark-then-level_of-level.new.others.items q c.in_ok-open-2.field-0) c.clause-then-level_of-level.ensures c.in_ok-open-2.ensures in
    let all : MarksAll t (slice_set seen ((entry_at t.entries r).lit.var - 1) false) c.mark-then-level_of-level.new.seen.items c.mark-then-level_of-level.new.others.items (clause_at c.args.arena.now.clauses id) c.in_ok-open-2.field-0 = subst (λ q. MarksAll t (slice_set seen (q - 1) false) c.mark-then-level_of-level.new.seen.items c.mark-then-level_of-level.new.others.items (clause_at c.args.arena.now.clauses id) c.in_ok-open-2.field-0) (sym v) all0 in
    let next = walk_resolve c.args.arena.now.clauses t c.len-p.ensures.valid seen c.mark-then-level_of-level.new.seen.items r c.walk.open c.in_ok-open-2.field-0 id c.walk.work.lits.items c.mark-then-level_of-level.new.others.items c.walk.work.hints.items c.requires.up w c.requires.explained level here (sym reason ∙ c.in-Some.is) c.if-open-le1.false all in
    omega (arith, next.counted, open_le t.entries c.mark-then-level_of-level.new.seen.items t.level (length t.entries), c.len-p.ensures.valid.few, c.requires.few_variables)

pub walk-preserved-then-level_of-level : goal.walk-preserved-then-level_of-level
walk-preserved-then-level_of-level c =
    let t = c.args.trail.now in
    let r = c.walk.p - 1 in
    let seen = c.walk.work.seen.items in
    let up : c.walk.p ≡ suc r = omega arith in
    let w : Walking c.args.arena.now.clauses t seen (suc r) c.walk.open c.walk.work.lits.items c.walk.work.hints.items = subst (λ k. Walking c.args.arena.now.clauses t seen k c.walk.open c.walk.work.lits.items c.walk.work.hints.items) up c.walk.invariant in
    let rl : r < length t.entries = omega (arith, w.within) in
    let v : (entry_at t.entries r).lit.var ≡ c.var-var.result = sym (ap (λ (l : Lit). l.var) c.lit.ensures) ∙ sym c.var-var.ensures.same in
    let within = c.len-p.ensures.valid.within r rl in
    let in_range : c.var-var.result - 1 < length seen = omega (arith, w.analysing.fits, within.0, within.1, v) in
    let read : flag seen (entry_at t.entries r).lit.var ≡ c.index.result.now = ap (flag seen) v ∙ sym (get_or_read seen (c.var-var.result - 1) _ in_range c.index.ensures false) in
    let here : SeenAt t.entries seen r = read ∙ c.if-index.true in
    let level : (entry_at t.entries r).level ≡ t.level = sym (c.level_of.ensures r rl v) ∙ c.if-level_of-level.true ∙ c.level.ensures in
    let reason = c.reason_of.ensures r rl v in
    let id = c.in-Some.id in
    let all0 : MarksAll t (slice_set seen (c.var-var.result - 1) false) c.mark-then-level_of-level.new.seen.items c.mark-then-level_of-level.new.others.items (clause_at c.args.arena.now.clauses id) c.in_ok-open-2.field-0 = subst (λ q. MarksAll t (slice_set seen (c.var-var.result - 1) false) c.mark-then-level_of-level.new.seen.items c.mark-then-level_of-level.new.others.items q c.in_ok-open-2.field-0) c.clause-then-level_of-level.ensures c.in_ok-open-2.ensures in
    let all : MarksAll t (slice_set seen ((entry_at t.entries r).lit.var - 1) false) c.mark-then-level_of-level.new.seen.items c.mark-then-level_of-level.new.others.items (clause_at c.args.arena.now.clauses id) c.in_ok-open-2.field-0 = subst (λ q. MarksAll t (slice_set seen (q - 1) false) c.mark-then-level_of-level.new.seen.items c.mark-then-level_of-level.new.others.items (clause_at c.args.arena.now.clauses id) c.in_ok-open-2.field-0) (sym v) all0 in
    let next = walk_resolve c.args.arena.now.clauses t c.len-p.ensures.valid seen c.mark-then-level_of-level.new.seen.items r c.walk.open c.in_ok-open-2.field-0 id c.walk.work.lits.items c.mark-then-level_of-level.new.others.items c.walk.work.hints.items c.requires.up w c.requires.explained level here (sym reason ∙ c.in-Some.is) c.if-open-le1.false all in
    rw c.in_ok-push-2.ensures.items next

pub walk-preserved : goal.walk-preserved
walk-preserved c =
    let t = c.args.trail.now in
    let r = c.walk.p - 1 in
    let seen = c.walk.work.seen.items in
    let up : c.walk.p ≡ suc r = omega arith in
    let w : Walking c.args.arena.now.clauses t seen (suc r) c.walk.open c.walk.work.lits.items c.walk.work.hints.items = subst (λ k. Walking c.args.arena.now.clauses t seen k c.walk.open c.walk.work.lits.items c.walk.work.hints.items) up c.walk.invariant in
    let rl : r < length t.entries = omega (arith, w.within) in
    let v : (entry_at t.entries r).lit.var ≡ c.var-var.result = sym (ap (λ (l : Lit). l.var) c.lit.ensures) ∙ sym c.var-var.ensures.same in
    let within = c.len-p.ensures.valid.within r rl in
    let in_range : c.var-var.result - 1 < length seen = omega (arith, w.analysing.fits, within.0, within.1, v) in
    let read : flag seen (entry_at t.entries r).lit.var ≡ c.index.result.now = ap (flag seen) v ∙ sym (get_or_read seen (c.var-var.result - 1) _ in_range c.index.ensures false) in
    walk_skip c.args.arena.now.clauses t c.len-p.ensures.valid seen r c.walk.open c.walk.work.lits.items c.walk.work.hints.items w (λ level here. elim c.else-index.branch [
      | else-index-via-then-index+else-level_of-level x ↦ x.if-level_of-level.false (x.level_of.ensures r rl v ∙ level ∙ sym x.level.ensures)
      | else-index-via-else-index x ↦ let off : true ≡ false = sym here ∙ read ∙ x.if-index.false in cc
    ])

pub unreachable-requires : goal.unreachable-requires
unreachable-requires c =
    let w = c.walk.invariant in
    omega (arith, w.counted, w.some, none_open c.args.trail.now.entries c.walk.work.seen.items c.args.trail.now.level (length c.args.trail.now.entries) (λ q ql e s. w.before q (omega arith) ql e s))
