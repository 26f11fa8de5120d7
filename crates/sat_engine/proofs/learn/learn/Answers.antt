use Rattle.std.proofs.Common.{◌≡◌, ◌⊎◌, ◌+◌, ◌++◌, ◌∷◌, [], List, Some, length, vec_len, refl, sym, ap, ◌∙◌, subst, inl, inr, arith}
use Rattle.proof_check.specs.Following.{first_live}
use Rattle.proof_check.specs.Lines.{Add, last_id, ArePositive}
use Rattle.clause_arena.specs.Clauses.{Clause}
use Rattle.clause_arena.specs.Arenas.{clause_at}
use Rattle.sat_trail.specs.Trails.{Entry, TrailState, lit_at}
use Rattle.sat_engine.specs.Searches.{IsJump, IsAttached}
use Rattle.sat_engine.proofs.SearchLemmas.{learn_line}
use Rattle.sat_engine.proofs.KeepLemmas.{unit_ground, within_at, keep_cut, keep_learnt, jump_open, clause_push_here, listed_learnt, listed_cut}
use Rattle.sat_engine.proofs.LearntLemmas.{first_covers, second_covers, fit_learnt}
use Rattle.sat_engine.proofs.WalkLemmas.{lesson_within}
use Rattle.sat_engine.proofs.StepLemmas.{lesson_short, hints_some, hints_positive, first_are, lesson_assigned}
use Rattle.sat_engine.proofs.ArrangeLemmas.{lesson_same, jump_same_set}
use Rattle.std.proofs.lemmas.Bool.{cases_lt}
use Rattle.sat_engine.proofs.learn.learn.Goals as goal

pub analyse-requires-clause-within : goal.analyse-requires-clause-within
analyse-requires-clause-within c = within_at c.args.known.now.arena.clauses c.args.trail.now.variables c.requires.searching.within

pub put_second-requires-clause-assigned : goal.put_second-requires-clause-assigned
put_second-requires-clause-assigned c = lesson_assigned c.args.known.now.arena.clauses c.args.trail.now c.in_ok-asserting.asserting c.analyse.new.work.lits.items c.analyse.new.work.hints.items c.in_ok-asserting.ensures.lesson

pub overflow_cast-literals : goal.overflow_cast-literals
overflow_cast-literals c =
    let moved = lesson_same c.args.known.now.arena.clauses c.args.trail.now c.in_ok-asserting.asserting c.analyse.new.work.lits.items c.put_second.new.lits.items c.analyse.new.work.hints.items c.put_second.ensures.same c.put_second.ensures.once c.in_ok-asserting.ensures.lesson in
    let short = lesson_short c.args.known.now.arena.clauses c.args.trail.now c.in_ok-asserting.asserting c.put_second.new.lits.items c.analyse.new.work.hints.items c.requires.searching moved in
    let lits : vec_len c.put_second.new.lits ≡ length c.put_second.new.lits.items = c.put_second.new.lits.ok.0 in
    let hints : vec_len c.analyse.new.work.hints ≡ length c.analyse.new.work.hints.items = c.analyse.new.work.hints.ok.0 in
    omega (arith, short, lits, c.requires.sized.variables_few)

pub overflow_cast-hints : goal.overflow_cast-hints
overflow_cast-hints c =
    let moved = lesson_same c.args.known.now.arena.clauses c.args.trail.now c.in_ok-asserting.asserting c.analyse.new.work.lits.items c.put_second.new.lits.items c.analyse.new.work.hints.items c.put_second.ensures.same c.put_second.ensures.once c.in_ok-asserting.ensures.lesson in
    let short = lesson_short c.args.known.now.arena.clauses c.args.trail.now c.in_ok-asserting.asserting c.put_second.new.lits.items c.analyse.new.work.hints.items c.requires.searching moved in
    let lits : vec_len c.put_second.new.lits ≡ length c.put_second.new.lits.items = c.put_second.new.lits.ok.0 in
    let hints : vec_len c.analyse.new.work.hints ≡ length c.analyse.new.work.hints.items = c.analyse.new.work.hints.ok.0 in
    omega (arith, short, hints, c.requires.sized.variables_few)

pub overflow_add-literals : goal.overflow_add-literals
overflow_add-literals c =
    let moved = lesson_same c.args.known.now.arena.clauses c.args.trail.now c.in_ok-asserting.asserting c.analyse.new.work.lits.items c.put_second.new.lits.items c.analyse.new.work.hints.items c.put_second.ensures.same c.put_second.ensures.once c.in_ok-asserting.ensures.lesson in
    let short = lesson_short c.args.known.now.arena.clauses c.args.trail.now c.in_ok-asserting.asserting c.put_second.new.lits.items c.analyse.new.work.hints.items c.requires.searching moved in
    let lits : vec_len c.put_second.new.lits ≡ length c.put_second.new.lits.items = c.put_second.new.lits.ok.0 in
    let hints : vec_len c.analyse.new.work.hints ≡ length c.analyse.new.work.hints.items = c.analyse.new.work.hints.ok.0 in
    omega (arith, short, lits, hints, c.requires.sized.variables_few)

pub push_add_reserved-requires-clause-above : goal.push_add_reserved-requires-clause-above
push_add_reserved-requires-clause-above c =
    let log = c.args.known.now.log in
    let last : last_id c.reserve-3.new.self.first c.reserve-3.new.self.lines ≡ length c.args.known.now.arena.clauses = ap (λ q. last_id q c.reserve-3.new.self.lines) c.in_ok-reserve-3.ensures.first ∙ ap (last_id log.first) c.in_ok-reserve-3.ensures.same ∙ c.requires.sized.last in
    omega (arith, last, c.len-id.ensures.len)

pub push_add_reserved-requires-clause-positive : goal.push_add_reserved-requires-clause-positive
push_add_reserved-requires-clause-positive c =
    let clauses = c.args.known.now.arena.clauses in
    subst ArePositive (sym c.deref-4.ensures.value) (hints_positive (first_live clauses) refl c.analyse.new.work.hints.items c.analyse.new.work.lits.items (c.in_ok-asserting.ensures.lesson.leads (first_live clauses) (first_are clauses)))

pub assign-requires-clause-unassigned : goal.assign-requires-clause-unassigned
assign-requires-clause-unassigned c =
    let clauses = c.args.known.now.arena.clauses in
    let t = c.args.trail.now in
    let x = c.in_ok-asserting.asserting in
    let found = c.analyse.new.work.lits.items in
    let lits = c.put_second.new.lits.items in
    let hints = c.analyse.new.work.hints.items in
    let s = c.requires.searching in
    let lesson = lesson_same clauses t x found lits hints c.put_second.ensures.same c.put_second.ensures.once c.in_ok-asserting.ensures.lesson in
    let far : IsJump t x lits c.jump_level-jump.result = jump_same_set t x found lits c.jump_level-jump.result c.put_second.ensures.same (subst (λ q. IsJump t x q c.jump_level-jump.result) c.deref.ensures.value c.jump_level-jump.ensures) in
    let cut = c.back_to.new.self in
    jump_open clauses t cut x lits hints c.jump_level-jump.result s lesson far c.back_to.ensures.cut

pub attach_long-requires-clause-fit : goal.attach_long-requires-clause-fit
attach_long-requires-clause-fit c =
    let clauses = c.args.known.now.arena.clauses in
    let t = c.args.trail.now in
    let x = c.in_ok-asserting.asserting in
    let found = c.analyse.new.work.lits.items in
    let lits = c.put_second.new.lits.items in
    let hints = c.analyse.new.work.hints.items in
    let jump = c.jump_level-jump.result in
    let s = c.requires.searching in
    let lesson = lesson_same clauses t x found lits hints c.put_second.ensures.same c.put_second.ensures.once c.in_ok-asserting.ensures.lesson in
    let near : IsJump t x found jump = subst (λ q. IsJump t x q jump) c.deref.ensures.value c.jump_level-jump.ensures in
    let far : IsJump t x lits jump = jump_same_set t x found lits jump c.put_second.ensures.same near in
    let cut = c.back_to.new.self in
    let new = c.assign.new.self in
    let id = c.len-id.result in
    let pushed : c.push_reserved.new.self.clauses ≡ clauses ++ lits ∷ [] = c.push_reserved.ensures.pushed ∙ ap (λ (q : List Clause). q ++ c.deref-5.result.now ∷ []) c.in_ok-reserve.ensures.same ∙ ap (λ (q : Clause). clauses ++ q ∷ []) c.deref-5.ensures.value in
    let here : clause_at c.push_reserved.new.self.clauses id ≡ lits = ap (λ (q : List Clause). clause_at q id) pushed ∙ clause_push_here clauses lits id c.len-id.ensures.len in
    let e : Entry = record { lit = x; level = cut.level; reason = Some id } in
    let entries_is : new.entries ≡ cut.entries ++ e ∷ [] = ap (λ (q : TrailState). q.entries) c.assign.ensures.grown in
    let level_is : cut.level ≡ new.level = sym (ap (λ (q : TrailState). q.level) c.assign.ensures.grown) in
    let at_jump : new.level ≡ jump = sym level_is ∙ c.back_to.ensures.cut.level_is in
    let first : lit_at lits 0 ≡ x = c.put_second.ensures.first ∙ c.in_ok-asserting.ensures.first in
    rw pushed (fit_learnt clauses c.args.known.now.watches c.reserve-2.new.self t cut new e lits jump c.requires.fit far.below c.back_to.ensures.cut c.back_to.ensures.valid c.in_ok-reserve-2.ensures.variables c.in_ok-reserve-2.ensures.listed (λ l i. (lesson_within clauses t x lits hints s.trail lesson l i).1) entries_is (ap (λ (q : TrailState). q.given) c.assign.ensures.grown) (ap (λ (q : TrailState). q.variables) c.assign.ensures.grown))

pub attach_long-requires-clause-first_covers : goal.attach_long-requires-clause-first_covers
attach_long-requires-clause-first_covers c long =
    let clauses = c.args.known.now.arena.clauses in
    let t = c.args.trail.now in
    let x = c.in_ok-asserting.asserting in
    let found = c.analyse.new.work.lits.items in
    let lits = c.put_second.new.lits.items in
    let hints = c.analyse.new.work.hints.items in
    let jump = c.jump_level-jump.result in
    let s = c.requires.searching in
    let lesson = lesson_same clauses t x found lits hints c.put_second.ensures.same c.put_second.ensures.once c.in_ok-asserting.ensures.lesson in
    let near : IsJump t x found jump = subst (λ q. IsJump t x q jump) c.deref.ensures.value c.jump_level-jump.ensures in
    let far : IsJump t x lits jump = jump_same_set t x found lits jump c.put_second.ensures.same near in
    let cut = c.back_to.new.self in
    let new = c.assign.new.self in
    let id = c.len-id.result in
    let pushed : c.push_reserved.new.self.clauses ≡ clauses ++ lits ∷ [] = c.push_reserved.ensures.pushed ∙ ap (λ (q : List Clause). q ++ c.deref-5.result.now ∷ []) c.in_ok-reserve.ensures.same ∙ ap (λ (q : Clause). clauses ++ q ∷ []) c.deref-5.ensures.value in
    let here : clause_at c.push_reserved.new.self.clauses id ≡ lits = ap (λ (q : List Clause). clause_at q id) pushed ∙ clause_push_here clauses lits id c.len-id.ensures.len in
    let e : Entry = record { lit = x; level = cut.level; reason = Some id } in
    let entries_is : new.entries ≡ cut.entries ++ e ∷ [] = ap (λ (q : TrailState). q.entries) c.assign.ensures.grown in
    let level_is : cut.level ≡ new.level = sym (ap (λ (q : TrailState). q.level) c.assign.ensures.grown) in
    let at_jump : new.level ≡ jump = sym level_is ∙ c.back_to.ensures.cut.level_is in
    let first : lit_at lits 0 ≡ x = c.put_second.ensures.first ∙ c.in_ok-asserting.ensures.first in
    rw here (first_covers t cut new e x lits jump s.trail c.assign.ensures.valid c.back_to.ensures.cut entries_is refl level_is at_jump first new.given)

pub attach_long-requires-clause-second_covers : goal.attach_long-requires-clause-second_covers
attach_long-requires-clause-second_covers c long =
    let clauses = c.args.known.now.arena.clauses in
    let t = c.args.trail.now in
    let x = c.in_ok-asserting.asserting in
    let found = c.analyse.new.work.lits.items in
    let lits = c.put_second.new.lits.items in
    let hints = c.analyse.new.work.hints.items in
    let jump = c.jump_level-jump.result in
    let s = c.requires.searching in
    let lesson = lesson_same clauses t x found lits hints c.put_second.ensures.same c.put_second.ensures.once c.in_ok-asserting.ensures.lesson in
    let near : IsJump t x found jump = subst (λ q. IsJump t x q jump) c.deref.ensures.value c.jump_level-jump.ensures in
    let far : IsJump t x lits jump = jump_same_set t x found lits jump c.put_second.ensures.same near in
    let cut = c.back_to.new.self in
    let new = c.assign.new.self in
    let id = c.len-id.result in
    let pushed : c.push_reserved.new.self.clauses ≡ clauses ++ lits ∷ [] = c.push_reserved.ensures.pushed ∙ ap (λ (q : List Clause). q ++ c.deref-5.result.now ∷ []) c.in_ok-reserve.ensures.same ∙ ap (λ (q : Clause). clauses ++ q ∷ []) c.deref-5.ensures.value in
    let here : clause_at c.push_reserved.new.self.clauses id ≡ lits = ap (λ (q : List Clause). clause_at q id) pushed ∙ clause_push_here clauses lits id c.len-id.ensures.len in
    let e : Entry = record { lit = x; level = cut.level; reason = Some id } in
    let entries_is : new.entries ≡ cut.entries ++ e ∷ [] = ap (λ (q : TrailState). q.entries) c.assign.ensures.grown in
    let level_is : cut.level ≡ new.level = sym (ap (λ (q : TrailState). q.level) c.assign.ensures.grown) in
    let at_jump : new.level ≡ jump = sym level_is ∙ c.back_to.ensures.cut.level_is in
    let first : lit_at lits 0 ≡ x = c.put_second.ensures.first ∙ c.in_ok-asserting.ensures.first in
    rw here (second_covers t cut new e x lits jump s.trail c.assign.ensures.valid c.back_to.ensures.cut entries_is refl level_is at_jump first new.given found near c.in_ok-asserting.ensures.first c.put_second.ensures.second)

pub returns-clause-searching : goal.returns-clause-searching
returns-clause-searching c =
    let clauses = c.args.known.now.arena.clauses in
    let t = c.args.trail.now in
    let x = c.in_ok-asserting.asserting in
    let found = c.analyse.new.work.lits.items in
    let lits = c.put_second.new.lits.items in
    let hints = c.analyse.new.work.hints.items in
    let jump = c.jump_level-jump.result in
    let s = c.requires.searching in
    let lesson = lesson_same clauses t x found lits hints c.put_second.ensures.same c.put_second.ensures.once c.in_ok-asserting.ensures.lesson in
    let near : IsJump t x found jump = subst (λ q. IsJump t x q jump) c.deref.ensures.value c.jump_level-jump.ensures in
    let far : IsJump t x lits jump = jump_same_set t x found lits jump c.put_second.ensures.same near in
    let cut = c.back_to.new.self in
    let new = c.assign.new.self in
    let id = c.len-id.result in
    let pushed : c.push_reserved.new.self.clauses ≡ clauses ++ lits ∷ [] = c.push_reserved.ensures.pushed ∙ ap (λ (q : List Clause). q ++ c.deref-5.result.now ∷ []) c.in_ok-reserve.ensures.same ∙ ap (λ (q : Clause). clauses ++ q ∷ []) c.deref-5.ensures.value in
    let here : clause_at c.push_reserved.new.self.clauses id ≡ lits = ap (λ (q : List Clause). clause_at q id) pushed ∙ clause_push_here clauses lits id c.len-id.ensures.len in
    let e : Entry = record { lit = x; level = cut.level; reason = Some id } in
    let entries_is : new.entries ≡ cut.entries ++ e ∷ [] = ap (λ (q : TrailState). q.entries) c.assign.ensures.grown in
    let level_is : cut.level ≡ new.level = sym (ap (λ (q : TrailState). q.level) c.assign.ensures.grown) in
    let at_jump : new.level ≡ jump = sym level_is ∙ c.back_to.ensures.cut.level_is in
    let first : lit_at lits 0 ≡ x = c.put_second.ensures.first ∙ c.in_ok-asserting.ensures.first in
    let kept = keep_cut clauses t cut jump s (omega (arith, far.below)) c.back_to.ensures.cut c.back_to.ensures.valid in
    rw pushed (keep_learnt clauses t cut x lits hints jump s lesson far c.back_to.ensures.cut id new c.len-id.ensures.len c.requires.up kept c.assign.ensures.grown c.assign.ensures.valid)

pub returns-clause-listed : goal.returns-clause-listed
returns-clause-listed c =
    let clauses = c.args.known.now.arena.clauses in
    let t = c.args.trail.now in
    let x = c.in_ok-asserting.asserting in
    let found = c.analyse.new.work.lits.items in
    let lits = c.put_second.new.lits.items in
    let hints = c.analyse.new.work.hints.items in
    let jump = c.jump_level-jump.result in
    let s = c.requires.searching in
    let lesson = lesson_same clauses t x found lits hints c.put_second.ensures.same c.put_second.ensures.once c.in_ok-asserting.ensures.lesson in
    let near : IsJump t x found jump = subst (λ q. IsJump t x q jump) c.deref.ensures.value c.jump_level-jump.ensures in
    let far : IsJump t x lits jump = jump_same_set t x found lits jump c.put_second.ensures.same near in
    let cut = c.back_to.new.self in
    let new = c.assign.new.self in
    let id = c.len-id.result in
    let pushed : c.push_reserved.new.self.clauses ≡ clauses ++ lits ∷ [] = c.push_reserved.ensures.pushed ∙ ap (λ (q : List Clause). q ++ c.deref-5.result.now ∷ []) c.in_ok-reserve.ensures.same ∙ ap (λ (q : Clause). clauses ++ q ∷ []) c.deref-5.ensures.value in
    let here : clause_at c.push_reserved.new.self.clauses id ≡ lits = ap (λ (q : List Clause). clause_at q id) pushed ∙ clause_push_here clauses lits id c.len-id.ensures.len in
    let e : Entry = record { lit = x; level = cut.level; reason = Some id } in
    let entries_is : new.entries ≡ cut.entries ++ e ∷ [] = ap (λ (q : TrailState). q.entries) c.assign.ensures.grown in
    let level_is : cut.level ≡ new.level = sym (ap (λ (q : TrailState). q.level) c.assign.ensures.grown) in
    let at_jump : new.level ≡ jump = sym level_is ∙ c.back_to.ensures.cut.level_is in
    let first : lit_at lits 0 ≡ x = c.put_second.ensures.first ∙ c.in_ok-asserting.ensures.first in
    let w = c.args.known.now.watches in
    let w2 = c.attach_long.new.watches in
    let how : IsAttached w2 id ⊎ (e.level ≡ 0) = elim (cases_lt 1 (length lits)) [
      | inl long ↦ inl (c.attach_long.ensures.long (omega (arith, long, ap length here)))
      | inr unit ↦ inr (omega (arith, level_is, at_jump, unit_ground t x lits jump lesson.holds far (omega (arith, unit))))
    ] in
    rw pushed (listed_learnt clauses lits w w2 cut new x id e c.len-id.ensures.len lesson.holds refl entries_is (λ k ne. c.attach_long.ensures.others k ne ∙ c.in_ok-reserve-2.ensures.listed k) how (listed_cut clauses w t cut jump c.back_to.ensures.cut c.requires.listed))

pub returns-clause-short : goal.returns-clause-short
returns-clause-short c =
    let moved = lesson_same c.args.known.now.arena.clauses c.args.trail.now c.in_ok-asserting.asserting c.analyse.new.work.lits.items c.put_second.new.lits.items c.analyse.new.work.hints.items c.put_second.ensures.same c.put_second.ensures.once c.in_ok-asserting.ensures.lesson in
    let short = lesson_short c.args.known.now.arena.clauses c.args.trail.now c.in_ok-asserting.asserting c.put_second.new.lits.items c.analyse.new.work.hints.items c.requires.searching moved in
    let lits : vec_len c.put_second.new.lits ≡ length c.put_second.new.lits.items = c.put_second.new.lits.ok.0 in
    let hints : vec_len c.analyse.new.work.hints ≡ length c.analyse.new.work.hints.items = c.analyse.new.work.hints.ok.0 in
    short

pub returns-clause-some : goal.returns-clause-some
returns-clause-some c = hints_some (first_live c.args.known.now.arena.clauses) c.analyse.new.work.lits.items c.analyse.new.work.hints.items (c.in_ok-asserting.ensures.lesson.leads (first_live c.args.known.now.arena.clauses) (first_are c.args.known.now.arena.clauses))

pub returns-clause-logged : goal.returns-clause-logged
returns-clause-logged c formula g =
    let clauses = c.args.known.now.arena.clauses in
    let t = c.args.trail.now in
    let x = c.in_ok-asserting.asserting in
    let found = c.analyse.new.work.lits.items in
    let lits = c.put_second.new.lits.items in
    let hints = c.analyse.new.work.hints.items in
    let s = c.requires.searching in
    let lesson = lesson_same clauses t x found lits hints c.put_second.ensures.same c.put_second.ensures.once c.in_ok-asserting.ensures.lesson in
    let far : IsJump t x lits c.jump_level-jump.result = jump_same_set t x found lits c.jump_level-jump.result c.put_second.ensures.same (subst (λ q. IsJump t x q c.jump_level-jump.result) c.deref.ensures.value c.jump_level-jump.ensures) in
    let cut = c.back_to.new.self in
    let pushed : c.push_reserved.new.self.clauses ≡ clauses ++ lits ∷ [] = c.push_reserved.ensures.pushed ∙ ap (λ (q : List Clause). q ++ c.deref-5.result.now ∷ []) c.in_ok-reserve.ensures.same ∙ ap (λ (q : Clause). clauses ++ q ∷ []) c.deref-5.ensures.value in
    let lines : c.push_add_reserved.new.self.lines ≡ c.args.known.now.log.lines ++ (Add (c.len-id.result + 1) lits hints) ∷ [] = c.push_add_reserved.ensures.pushed ∙ ap (λ q. q ++ (Add (c.len-id.result + 1) c.deref-3.result.now c.deref-4.result.now) ∷ []) c.in_ok-reserve-3.ensures.same
    ∙ ap (λ q. c.args.known.now.log.lines ++ (Add (c.len-id.result + 1) q c.deref-4.result.now) ∷ []) c.deref-3.ensures.value ∙ ap (λ q. c.args.known.now.log.lines ++ (Add (c.len-id.result + 1) lits q) ∷ []) c.deref-4.ensures.value in
    rw (pushed, lines) (learn_line formula clauses t c.args.known.now.log.lines s g (c.len-id.result + 1) x lits hints (omega (arith, c.len-id.ensures.len)) c.requires.up lesson)
