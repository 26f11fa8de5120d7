use Rattle.std.proofs.Common.{◌≡◌, ◌+◌, ◌-◌, ◌<◌, [], ◌∷◌, ◌++◌, reverse, length, subst, sym, ap, ◌∙◌, arith, length-append, vec_len}
use Rattle.std.specs.List.{SwappedAt}
use Rattle.clause_arena.specs.Clauses.{opposite}
use Rattle.sat_trail.specs.Trails.{entry_at, no_lit}
use Rattle.sat_engine.specs.Lessons.{IsUnmarked, IsPoint}
use Rattle.sat_engine.proofs.WalkLemmas.{touches, lesson_of, clear_of, point_stays, lesson_within, all_of}
use Rattle.sat_engine.proofs.ArrangeLemmas.{lesson_same, swapped_same, swapped_once, lit_end}
use Rattle.sat_engine.proofs.analyse.analyse.Goals as goal

pub walk-requires-clause-touches : goal.walk-requires-clause-touches
walk-requires-clause-touches c = touches c.args.arena.now.clauses c.args.trail.now c.args.conflict c.len-count.ensures.valid c.requires.up c.requires.is_clause c.requires.filled c.requires.quiet c.requires.is_false

pub unmark-requires : goal.unmark-requires
unmark-requires c =
    let t = c.args.trail.now in
    let clauses = c.args.arena.now.clauses in
    let r = c.in_ok-place.place in
    let x : c.negated-asserting.result ≡ opposite (entry_at t.entries r).lit = c.negated-asserting.ensures ∙ ap opposite c.lit.ensures in
    let first : IsPoint t c.walk.new.work.seen.items r c.negated-asserting.result = subst (λ q. IsPoint t c.walk.new.work.seen.items r q) (sym x) c.in_ok-place.ensures.point in
    let point = point_stays t c.walk.new.work.seen.items c.resolve_zeros.new.work.seen.items r c.negated-asserting.result c.requires.up first c.in_ok-resolve_zeros.ensures.above in
    let a = c.in_ok-resolve_zeros.ensures.analysing in
    let lesson = lesson_of clauses t c.resolve_zeros.new.work.seen.items c.resolve_zeros.new.work.lits.items (reverse c.resolve_zeros.new.work.hints.items) r c.negated-asserting.result c.len-count.ensures.valid a point in
    record {
      within = rw (c.deref.ensures.value, c.in_ok-push.ensures.items) (all_of (c.resolve_zeros.new.work.lits.items ++ c.negated-asserting.result ∷ []) (length c.resolve_zeros.new.work.seen.items)
          (λ l i. let w = lesson_within clauses t c.negated-asserting.result _ _ c.len-count.ensures.valid lesson l i in omega (arith, w.1, a.fits)));
    }

pub returns-clause-lesson : goal.returns-clause-lesson
returns-clause-lesson c =
    let t = c.args.trail.now in
    let clauses = c.args.arena.now.clauses in
    let r = c.in_ok-place.place in
    let x : c.negated-asserting.result ≡ opposite (entry_at t.entries r).lit = c.negated-asserting.ensures ∙ ap opposite c.lit.ensures in
    let first : IsPoint t c.walk.new.work.seen.items r c.negated-asserting.result = subst (λ q. IsPoint t c.walk.new.work.seen.items r q) (sym x) c.in_ok-place.ensures.point in
    let point = point_stays t c.walk.new.work.seen.items c.resolve_zeros.new.work.seen.items r c.negated-asserting.result c.requires.up first c.in_ok-resolve_zeros.ensures.above in
    let a = c.in_ok-resolve_zeros.ensures.analysing in
    let others = c.resolve_zeros.new.work.lits.items in
    let old = others ++ c.negated-asserting.result ∷ [] in
    let new = c.swap.new.self.items in
    let last = c.len-last.result - 1 in
    let pushed : c.push.new.self.items ≡ old = c.in_ok-push.ensures.items in
    let long : length old ≡ length others + 1 = length-append others (c.negated-asserting.result ∷ []) in
    let there : vec_len c.push.new.self ≡ length old = c.push.new.self.ok.0 ∙ ap length pushed in
    let swapped : SwappedAt old new 0 last = subst (λ q. SwappedAt q new 0 last) pushed c.swap.ensures.by_index in
    let len : length new ≡ length old = sym c.swap.new.self.ok.0 ∙ c.swap.ensures.len ∙ there in
    let lesson = lesson_of clauses t c.resolve_zeros.new.work.seen.items c.resolve_zeros.new.work.lits.items (reverse c.resolve_zeros.new.work.hints.items) r c.negated-asserting.result c.len-count.ensures.valid a point in
    let first : 0 < length old = omega (arith, long) in
    let end : last < length old = omega (arith, long, there, c.len-last.ensures) in
    rw c.reverse.ensures.items (lesson_same clauses t c.negated-asserting.result old new _ (swapped_same old new 0 last first end len swapped) (swapped_once old new 0 last first end len swapped lesson.once) lesson)

pub returns-clause-first : goal.returns-clause-first
returns-clause-first c =
    let t = c.args.trail.now in
    let clauses = c.args.arena.now.clauses in
    let r = c.in_ok-place.place in
    let x : c.negated-asserting.result ≡ opposite (entry_at t.entries r).lit = c.negated-asserting.ensures ∙ ap opposite c.lit.ensures in
    let first : IsPoint t c.walk.new.work.seen.items r c.negated-asserting.result = subst (λ q. IsPoint t c.walk.new.work.seen.items r q) (sym x) c.in_ok-place.ensures.point in
    let point = point_stays t c.walk.new.work.seen.items c.resolve_zeros.new.work.seen.items r c.negated-asserting.result c.requires.up first c.in_ok-resolve_zeros.ensures.above in
    let a = c.in_ok-resolve_zeros.ensures.analysing in
    let others = c.resolve_zeros.new.work.lits.items in
    let old = others ++ c.negated-asserting.result ∷ [] in
    let new = c.swap.new.self.items in
    let last = c.len-last.result - 1 in
    let pushed : c.push.new.self.items ≡ old = c.in_ok-push.ensures.items in
    let long : length old ≡ length others + 1 = length-append others (c.negated-asserting.result ∷ []) in
    let there : vec_len c.push.new.self ≡ length old = c.push.new.self.ok.0 ∙ ap length pushed in
    let swapped : SwappedAt old new 0 last = subst (λ q. SwappedAt q new 0 last) pushed c.swap.ensures.by_index in
    swapped.0 no_lit ∙ lit_end others c.negated-asserting.result last (omega (arith, long, there, c.len-last.ensures))

pub returns-clause-clear : goal.returns-clause-clear
returns-clause-clear c =
    let t = c.args.trail.now in
    let clauses = c.args.arena.now.clauses in
    let r = c.in_ok-place.place in
    let x : c.negated-asserting.result ≡ opposite (entry_at t.entries r).lit = c.negated-asserting.ensures ∙ ap opposite c.lit.ensures in
    let first : IsPoint t c.walk.new.work.seen.items r c.negated-asserting.result = subst (λ q. IsPoint t c.walk.new.work.seen.items r q) (sym x) c.in_ok-place.ensures.point in
    let point = point_stays t c.walk.new.work.seen.items c.resolve_zeros.new.work.seen.items r c.negated-asserting.result c.requires.up first c.in_ok-resolve_zeros.ensures.above in
    let a = c.in_ok-resolve_zeros.ensures.analysing in
    let items : c.deref.result.now ≡ c.resolve_zeros.new.work.lits.items ++ c.negated-asserting.result ∷ [] = c.deref.ensures.value ∙ c.in_ok-push.ensures.items in
    let less : IsUnmarked c.resolve_zeros.new.work.seen.items c.unmark.new.seen.items (c.resolve_zeros.new.work.lits.items ++ c.negated-asserting.result ∷ []) = subst (λ q. IsUnmarked c.resolve_zeros.new.work.seen.items c.unmark.new.seen.items q) items c.unmark.ensures.less in
    clear_of clauses t c.resolve_zeros.new.work.seen.items c.unmark.new.seen.items c.resolve_zeros.new.work.lits.items (reverse c.resolve_zeros.new.work.hints.items) r c.negated-asserting.result c.len-count.ensures.valid a point less
