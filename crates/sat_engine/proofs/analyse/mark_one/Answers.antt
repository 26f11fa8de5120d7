use Rattle.std.proofs.Common.{◌≡◌, ◌≢◌, ◌-◌, ◌<◌, false, length, sym, ap, ◌∙◌, arith}
use Rattle.sat_engine.proofs.PlaceLemmas.{true_at}
use Rattle.watch_lists.proofs.TrailFacts.{place_true}
use Rattle.std.proofs.lemmas.List.{get_or_read}
use Rattle.clause_arena.specs.Clauses.{Lit, opposite, In}
use Rattle.sat_trail.specs.Trails.{entry_at, true_lits}
use Rattle.sat_engine.specs.Lessons.{flag}
use Rattle.sat_engine.proofs.LessonLemmas.{consistent}
use Rattle.sat_engine.proofs.MarkLemmas.{mark_level, mark_zero, mark_lower, mark_none}
use Rattle.sat_engine.proofs.analyse.mark_one.Goals as goal

pub level_of-requires : goal.level_of-requires
level_of-requires c =
    let i : In (opposite c.args.lit) (true_lits c.args.trail.now.entries) = (let h = rw c.in-Some-false.field-0-test at c.in-Some-false.ensures in h) in
    let p = true_at c.args.trail.now.entries (opposite c.args.lit) i in
    (p.0, p.1.0, ap (λ (l : Lit). l.var) p.1.1 ∙ sym c.var-var.ensures.same)

pub level_of-requires-else-level_of-level : goal.level_of-requires-else-level_of-level
level_of-requires-else-level_of-level c =
    let i : In (opposite c.args.lit) (true_lits c.args.trail.now.entries) = (let h = rw c.in-Some-false.field-0-test at c.in-Some-false.ensures in h) in
    let p = true_at c.args.trail.now.entries (opposite c.args.lit) i in
    (p.0, p.1.0, ap (λ (l : Lit). l.var) p.1.1 ∙ sym c.var-var.ensures.same)

pub returns-then-level_of-level : goal.returns-then-level_of-level
returns-then-level_of-level c =
    let t = c.args.trail.now in
    let seen = c.args.seen.now.items in
    let i : In (opposite c.args.lit) (true_lits t.entries) = (let h = rw c.in-Some-false.field-0-test at c.in-Some-false.ensures in h) in
    let p = true_at t.entries (opposite c.args.lit) i in
    let fits : length seen ≡ t.variables = omega (arith, c.args.seen.now.ok.0) in
    let w = c.len-count.ensures.valid.within p.0 p.1.0 in
    let v : (entry_at t.entries p.0).lit.var ≡ c.args.lit.var = ap (λ (l : Lit). l.var) p.1.1 in
    let in_range : c.var-var.result - 1 < length seen = omega (arith, w.0, w.1, v, c.var-var.ensures.same) in
    let fresh : flag seen c.args.lit.var ≡ false = ap (flag seen) (sym c.var-var.ensures.same) ∙ sym (get_or_read seen (c.var-var.result - 1) _ in_range c.index.ensures false) ∙ c.if-index.false in
    let level : (entry_at t.entries p.0).level ≡ t.level = sym (c.level_of.ensures p.0 p.1.0 (v ∙ sym c.var-var.ensures.same)) ∙ c.if-level_of-level.true ∙ c.level.ensures in
    rw c.var-var.ensures.same (mark_level t c.len-count.ensures.valid seen c.args.others.now.items c.args.lit p.0 p.1 fits fresh c.requires.gathers level)

pub returns-then-level_of-eq0 : goal.returns-then-level_of-eq0
returns-then-level_of-eq0 c =
    let t = c.args.trail.now in
    let seen = c.args.seen.now.items in
    let i : In (opposite c.args.lit) (true_lits t.entries) = (let h = rw c.in-Some-false.field-0-test at c.in-Some-false.ensures in h) in
    let p = true_at t.entries (opposite c.args.lit) i in
    let fits : length seen ≡ t.variables = omega (arith, c.args.seen.now.ok.0) in
    let w = c.len-count.ensures.valid.within p.0 p.1.0 in
    let v : (entry_at t.entries p.0).lit.var ≡ c.args.lit.var = ap (λ (l : Lit). l.var) p.1.1 in
    let in_range : c.var-var.result - 1 < length seen = omega (arith, w.0, w.1, v, c.var-var.ensures.same) in
    let fresh : flag seen c.args.lit.var ≡ false = ap (flag seen) (sym c.var-var.ensures.same) ∙ sym (get_or_read seen (c.var-var.result - 1) _ in_range c.index.ensures false) ∙ c.if-index.false in
    let level : (entry_at t.entries p.0).level ≢ t.level = λ e. c.if-level_of-level.false (c.level_of.ensures p.0 p.1.0 (v ∙ sym c.var-var.ensures.same) ∙ e ∙ sym c.level.ensures) in
    let ground : (entry_at t.entries p.0).level ≡ 0 = sym (c.level_of-else-level_of-level.ensures p.0 p.1.0 (v ∙ sym c.var-var.ensures.same)) ∙ c.if-level_of-eq0.true in
    rw c.var-var.ensures.same (mark_zero t c.len-count.ensures.valid seen c.args.others.now.items c.args.lit p.0 p.1 fits fresh c.requires.gathers level ground)

pub returns-in_ok-push : goal.returns-in_ok-push
returns-in_ok-push c =
    let t = c.args.trail.now in
    let seen = c.args.seen.now.items in
    let i : In (opposite c.args.lit) (true_lits t.entries) = (let h = rw c.in-Some-false.field-0-test at c.in-Some-false.ensures in h) in
    let p = true_at t.entries (opposite c.args.lit) i in
    let fits : length seen ≡ t.variables = omega (arith, c.args.seen.now.ok.0) in
    let w = c.len-count.ensures.valid.within p.0 p.1.0 in
    let v : (entry_at t.entries p.0).lit.var ≡ c.args.lit.var = ap (λ (l : Lit). l.var) p.1.1 in
    let in_range : c.var-var.result - 1 < length seen = omega (arith, w.0, w.1, v, c.var-var.ensures.same) in
    let fresh : flag seen c.args.lit.var ≡ false = ap (flag seen) (sym c.var-var.ensures.same) ∙ sym (get_or_read seen (c.var-var.result - 1) _ in_range c.index.ensures false) ∙ c.if-index.false in
    let level : (entry_at t.entries p.0).level ≢ t.level = λ e. c.if-level_of-level.false (c.level_of.ensures p.0 p.1.0 (v ∙ sym c.var-var.ensures.same) ∙ e ∙ sym c.level.ensures) in
    let high : (entry_at t.entries p.0).level ≢ 0 = λ e. c.if-level_of-eq0.false (c.level_of-else-level_of-level.ensures p.0 p.1.0 (v ∙ sym c.var-var.ensures.same) ∙ e) in
    rw (c.in_ok-push.ensures.items, c.var-var.ensures.same) (mark_lower t c.len-count.ensures.valid seen c.args.others.now.items c.args.lit p.0 p.1 fits fresh c.requires.gathers level high)

pub returns-in_default : goal.returns-in_default
returns-in_default c = mark_none _ _ _ _ c.requires.gathers (λ q ql e.
    let i : In c.args.lit (true_lits c.args.trail.now.entries) = (let h = rw c.in_default.field-0-test at c.in_default.ensures in h) in
    absurd (consistent c.args.trail.now c.len-count.ensures.valid c.args.lit (true_at _ _ i) (q, (ql, e))))

pub returns-in_default-2 : goal.returns-in_default-2
returns-in_default-2 c = mark_none _ _ _ _ c.requires.gathers (λ q ql e. absurd (c.in_default.ensures.1 (place_true _ q _ ql e)))
