use Rattle.std.proofs.Common.{◌≡◌, suc, ◌-◌, ◌<◌, true, false, reverse, length, slice_set, subst, sym, ap, ◌∙◌, arith}
use Rattle.std.proofs.lemmas.List.{get_or_read}
use Rattle.clause_arena.specs.Clauses.{Lit}
use Rattle.sat_trail.specs.Trails.{entry_at}
use Rattle.clause_arena.specs.Arenas.{clause_at}
use Rattle.sat_engine.specs.Lessons.{SeenAt, flag, Analysing, Gathers, MarksAll}
use Rattle.sat_engine.proofs.MarkLemmas.{less_gathers}
use Rattle.sat_engine.proofs.WalkLemmas.{zero_start, zero_skip, zero_resolve, zero_above}
use Rattle.sat_engine.proofs.analyse.resolve_zeros.Goals as goal

pub zeros-init : goal.zeros-init
zeros-init c = record {
  analysing = zero_start c.args.arena.now.clauses c.args.trail.now c.len-count.ensures.valid c.args.work.now.seen.items c.zeros-p.result c.args.work.now.lits.items _ c.zeros-p.ensures.within c.zeros-p.ensures.high c.requires.analysing;
  above = λ q ql up. (λ s. s, λ s. s);
  within = omega arith;
}

pub mark-requires-clause-gathers : goal.mark-requires-clause-gathers
mark-requires-clause-gathers c =
    let t = c.args.trail.now in
    let r = c.zeros.p - 1 in
    let seen = c.zeros.work.seen.items in
    let up : c.zeros.p ≡ suc r = omega arith in
    let a : Analysing c.args.arena.now.clauses t seen 0 (suc r) c.zeros.work.lits.items (reverse c.zeros.work.hints.items) = subst (λ k. Analysing c.args.arena.now.clauses t seen 0 k c.zeros.work.lits.items (reverse c.zeros.work.hints.items)) up c.zeros.invariant.analysing in
    let inside : r < c.zeros-p.result = omega (arith, c.zeros.invariant.within) in
    let rl : r < length t.entries = omega (arith, inside, c.zeros-p.ensures.within) in
    let v : (entry_at t.entries r).lit.var ≡ c.var-var.result = sym (ap (λ (l : Lit). l.var) c.lit.ensures) ∙ sym c.var-var.ensures.same in
    let within = c.len-count.ensures.valid.within r rl in
    let in_range : c.var-var.result - 1 < length seen = omega (arith, a.fits, within.0, within.1, v) in
    let read : flag seen (entry_at t.entries r).lit.var ≡ c.index.result.now = ap (flag seen) v ∙ sym (get_or_read seen (c.var-var.result - 1) _ in_range c.index.ensures false) in
    let here : SeenAt t.entries seen r = read ∙ c.if-index.true in
    let reason = sym (c.reason_of.ensures r rl v) ∙ c.in-Some.is in
    subst (λ q. Gathers t (slice_set seen (q - 1) false) c.zeros.work.lits.items) v (less_gathers t c.len-count.ensures.valid seen a.fits r rl here c.zeros.work.lits.items (λ high low. omega (arith, high, c.zeros-p.ensures.low r inside)) a.gathers)

pub zeros-preserved-in_ok-mark : goal.zeros-preserved-in_ok-mark
zeros-preserved-in_ok-mark c =
    let t = c.args.trail.now in
    let r = c.zeros.p - 1 in
    let seen = c.zeros.work.seen.items in
    let up : c.zeros.p ≡ suc r = omega arith in
    let a : Analysing c.args.arena.now.clauses t seen 0 (suc r) c.zeros.work.lits.items (reverse c.zeros.work.hints.items) = subst (λ k. Analysing c.args.arena.now.clauses t seen 0 k c.zeros.work.lits.items (reverse c.zeros.work.hints.items)) up c.zeros.invariant.analysing in
    let inside : r < c.zeros-p.result = omega (arith, c.zeros.invariant.within) in
    let rl : r < length t.entries = omega (arith, inside, c.zeros-p.ensures.within) in
    let v : (entry_at t.entries r).lit.var ≡ c.var-var.result = sym (ap (λ (l : Lit). l.var) c.lit.ensures) ∙ sym c.var-var.ensures.same in
    let within = c.len-count.ensures.valid.within r rl in
    let in_range : c.var-var.result - 1 < length seen = omega (arith, a.fits, within.0, within.1, v) in
    let read : flag seen (entry_at t.entries r).lit.var ≡ c.index.result.now = ap (flag seen) v ∙ sym (get_or_read seen (c.var-var.result - 1) _ in_range c.index.ensures false) in
    let here : SeenAt t.entries seen r = read ∙ c.if-index.true in
    let reason = sym (c.reason_of.ensures r rl v) ∙ c.in-Some.is in
    let id = c.in-Some.id in
    let all0 : MarksAll t (slice_set seen (c.var-var.result - 1) false) c.mark.new.seen.items c.mark.new.others.items (clause_at c.args.arena.now.clauses id) c.in_ok-mark.field-0 = subst (λ q. MarksAll t (slice_set seen (c.var-var.result - 1) false) c.mark.new.seen.items c.mark.new.others.items q c.in_ok-mark.field-0) c.clause.ensures c.in_ok-mark.ensures in
    let all : MarksAll t (slice_set seen ((entry_at t.entries r).lit.var - 1) false) c.mark.new.seen.items c.mark.new.others.items (clause_at c.args.arena.now.clauses id) c.in_ok-mark.field-0 = subst (λ q. MarksAll t (slice_set seen (q - 1) false) c.mark.new.seen.items c.mark.new.others.items (clause_at c.args.arena.now.clauses id) c.in_ok-mark.field-0) (sym v) all0 in
    let above = zero_above c.args.arena.now.clauses t c.len-count.ensures.valid seen c.mark.new.seen.items r c.in_ok-mark.field-0 id c.zeros-p.result c.zeros.work.lits.items c.mark.new.others.items c.zeros.work.hints.items a c.requires.explained rl inside c.zeros-p.ensures.low here reason all in
    rw c.in_ok-push.ensures.items (record {
      analysing = zero_resolve c.args.arena.now.clauses t c.len-count.ensures.valid seen c.mark.new.seen.items r c.in_ok-mark.field-0 id c.zeros-p.result c.zeros.work.lits.items c.mark.new.others.items c.zeros.work.hints.items a c.requires.explained rl inside c.zeros-p.ensures.low here reason all;
      above = λ q ql high. (λ s. (c.zeros.invariant.above q ql high).0 ((above q ql high).0 s), λ s. (above q ql high).1 ((c.zeros.invariant.above q ql high).1 s));
      within = omega (arith, c.zeros.invariant.within);
    })

pub zeros-preserved : goal.zeros-preserved
zeros-preserved c =
    let t = c.args.trail.now in
    let r = c.zeros.p - 1 in
    let seen = c.zeros.work.seen.items in
    let up : c.zeros.p ≡ suc r = omega arith in
    let a : Analysing c.args.arena.now.clauses t seen 0 (suc r) c.zeros.work.lits.items (reverse c.zeros.work.hints.items) = subst (λ k. Analysing c.args.arena.now.clauses t seen 0 k c.zeros.work.lits.items (reverse c.zeros.work.hints.items)) up c.zeros.invariant.analysing in
    let inside : r < c.zeros-p.result = omega (arith, c.zeros.invariant.within) in
    let rl : r < length t.entries = omega (arith, inside, c.zeros-p.ensures.within) in
    let v : (entry_at t.entries r).lit.var ≡ c.var-var.result = sym (ap (λ (l : Lit). l.var) c.lit.ensures) ∙ sym c.var-var.ensures.same in
    let within = c.len-count.ensures.valid.within r rl in
    let in_range : c.var-var.result - 1 < length seen = omega (arith, a.fits, within.0, within.1, v) in
    let read : flag seen (entry_at t.entries r).lit.var ≡ c.index.result.now = ap (flag seen) v ∙ sym (get_or_read seen (c.var-var.result - 1) _ in_range c.index.ensures false) in
    record {
      analysing = zero_skip c.args.arena.now.clauses t c.len-count.ensures.valid seen r c.zeros.work.lits.items _ a (λ s. let off : true ≡ false = sym s ∙ read ∙ c.if-index.false in cc);
      above = c.zeros.invariant.above;
      within = omega (arith, c.zeros.invariant.within);
    }
