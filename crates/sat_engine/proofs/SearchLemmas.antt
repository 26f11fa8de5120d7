-- A learnt clause as one more line of a progress log.
use Rattle.std.proofs.Common.{◌≡◌, ◌≢◌, ℕ, zero, suc, ◌+◌, ◌-◌, ◌<◌, List, [], ◌∷◌, ◌++◌, length, Some, slice_get, refl, sym, ap, ◌∙◌, subst, inl, inr, arith, length-append, append_assoc}
use Rattle.sat_trail.proofs.LitLemmas.{opposite_twice}
use Rattle.proof_check.specs.Progress.{IsKnown, IsNew, OthersFalse}
use Rattle.proof_check.specs.Following.{first_live, live_after, LineFollows, HintsLead, Refutes}
use Rattle.proof_check.specs.Lines.{Line, Add, Del}
use Rattle.std.proofs.lemmas.Bool.{cases_eq, ne_eqb}
use Rattle.clause_arena.specs.Clauses.{Lit, opposite, Clause, In}
use Rattle.sat_trail.specs.Trails.{TrailState, entry_at, IsTrueBy}
use Rattle.sat_engine.specs.Steps.{added, known_after, CountsFrom, IsClosed, IsConsistent}
use Rattle.sat_engine.proofs.LearnLemmas.{new_by}
use Rattle.sat_engine.proofs.LogLemmas.{progress_push, live_is, known_is, counts_push, progress_follows, follow_push, empty_last}
use Rattle.sat_engine.specs.Lessons.{IsTrueLit, LiveAre, IsLesson, AreRefuting}
use Rattle.sat_engine.specs.Searches.{IsSameSet, AreSameSets, IsSearching, IsLogged}
use Rattle.sat_engine.proofs.LessonLemmas.{consistent, at_one}
use Rattle.sat_engine.proofs.StepLemmas.{hints_some}
use Rattle.sat_engine.proofs.WalkLemmas.{lesson_false, lesson_within}

first_is : (formula : List Clause) (k : ℕ) → first_live formula (suc k) ≡ slice_get formula k
first_is formula k = rw (ne_eqb (suc k) 0 (omega arith)) (ap (slice_get formula) (let e : suc k - 1 ≡ k = omega arith in e))

-- a place that is below the length holds a clause
get_below : (cs : List Clause) (k : ℕ) → k < length cs → (c : Clause) × (slice_get cs k ≡ Some c)
get_below [] k l = absurd (omega (arith, l))
get_below (c ∷ cs) zero l = (c, refl)
get_below (c ∷ cs) (suc k) l = get_below cs k (omega (arith, l))

pub below_get : (cs : List Clause) (k : ℕ) (c : Clause) → slice_get cs k ≡ Some c → k < length cs
below_get [] k c e = cc
below_get (d ∷ cs) zero c e = omega arith
below_get (d ∷ cs) (suc k) c e = omega (arith, below_get cs k c e)

pub live_are : (formula clauses : List Clause) (lines : List Line) → AreSameSets clauses (formula ++ added lines) → CountsFrom (suc (length formula)) lines → LiveAre (live_after (first_live formula) lines) clauses
live_are formula clauses lines same counts k c e =
    let kl : k < length (formula ++ added lines) = omega (arith, below_get clauses k c e, same.0) in
    let d = get_below (formula ++ added lines) k kl in
    (d.0, live_is lines (first_live formula) formula (first_is formula) counts k ∙ d.1, same.1 k c d.0 e d.1)

pub known_place : (known : List Clause) (c : Clause) → IsKnown c known → (k : ℕ) × (slice_get known k ≡ Some c)
known_place [] c i = absurd i
known_place (d ∷ known) c (inl same) = (0, ap Some (sym same))
known_place (d ∷ known) c (inr i) = let r = known_place known c i in (suc r.0, r.1)

pub known_left : (a b : List Clause) (c : Clause) → IsKnown c a → IsKnown c (a ++ b)
known_left [] b c i = absurd i
known_left (d ∷ a) b c (inl same) = inl same
known_left (d ∷ a) b c (inr i) = inr (known_left a b c i)

known_right : (a b : List Clause) (c : Clause) → IsKnown c b → IsKnown c (a ++ b)
known_right [] b c i = i
known_right (d ∷ a) b c i = inr (known_right a b c i)

get_here : (base : List Clause) (c : Clause) (k : ℕ) → k ≡ length base → slice_get (base ++ c ∷ []) k ≡ Some c
get_here [] c zero e = refl
get_here [] c (suc k) e = absurd (omega (arith, e))
get_here (b ∷ base) c zero e = absurd (omega (arith, e))
get_here (b ∷ base) c (suc k) e = get_here base c k (omega (arith, e))

get_there : (base : List Clause) (c : Clause) (k : ℕ) → k ≢ length base → slice_get (base ++ c ∷ []) k ≡ slice_get base k
get_there [] c zero e = absurd (e refl)
get_there [] c (suc k) e = refl
get_there (b ∷ base) c zero e = refl
get_there (b ∷ base) c (suc k) e = get_there base c k (λ s. e (omega (arith, s)))

-- one more clause on both sides
pub same_push : (clauses known : List Clause) (c : Clause) → AreSameSets clauses known → AreSameSets (clauses ++ c ∷ []) (known ++ c ∷ [])
same_push clauses known c same = (omega (arith, same.0, length-append clauses (c ∷ []), length-append known (c ∷ [])), at)
  where
    at : (k : ℕ) (a b : Clause) → slice_get (clauses ++ c ∷ []) k ≡ Some a → slice_get (known ++ c ∷ []) k ≡ Some b → IsSameSet a b
    at k a b e f = elim (cases_eq k (length clauses)) [
      | inl last ↦
          let x : a ≡ c = (let h : Some a ≡ Some c = sym e ∙ get_here clauses c k last in cc) in
          let y : b ≡ c = (let h : Some b ≡ Some c = sym f ∙ get_here known c k (last ∙ same.0) in cc) in
          let both : a ≡ b = x ∙ sym y in
          λ l. (λ i. subst (λ q. In l q) both i, λ i. subst (λ q. In l q) (sym both) i)
      | inr other ↦ same.1 k a b (sym (get_there clauses c k other) ∙ e) (sym (get_there known c k (λ g. other (g ∙ sym same.0))) ∙ f)
    ]

added_push : (lines : List Line) (id : ℕ) (lits : Clause) (hints : List ℕ) → added (lines ++ Add id lits hints ∷ []) ≡ added lines ++ lits ∷ []
added_push [] id lits hints = refl
added_push (Add i ls hs ∷ lines) id lits hints = ap (λ q. ls ∷ q) (added_push lines id lits hints)
added_push (Del ids ∷ lines) id lits hints = added_push lines id lits hints

added_length : (n : ℕ) (lines : List Line) → CountsFrom n lines → length (added lines) ≡ length lines
added_length n [] counts = refl
added_length n (Add i ls hs ∷ lines) counts = omega (arith, added_length (suc n) lines counts.1)
added_length n (Del ids ∷ lines) counts = absurd counts

-- so many clauses are known
pub logged_length : (formula : List Clause) (variables : ℕ) (clauses : List Clause) (lines : List Line) → IsLogged formula variables clauses lines → length clauses ≡ length formula + length lines
logged_length formula variables clauses lines g = omega (arith, g.same.0, length-append formula (added lines), added_length (suc (length formula)) lines g.counts)

module _ (formula clauses : List Clause) (t : TrailState) (lines : List Line) (s : IsSearching clauses t) (g : IsLogged formula t.variables clauses lines) where
  -- each known clause is one of the arena's, as a set
  in_arena : (c : Clause) → IsKnown c (known_after formula lines) → (k : ℕ) × (a : Clause) × (slice_get clauses k ≡ Some a) × IsSameSet a c
  in_arena c i =
      let j : IsKnown c (formula ++ added lines) = elim (known_is lines formula c i) [ inl old ↦ known_left formula (added lines) c old | inr new ↦ known_right formula (added lines) c new ] in
      let p = known_place (formula ++ added lines) c j in
      let kl : p.0 < length clauses = omega (arith, below_get (formula ++ added lines) p.0 c p.1, g.same.0) in
      let a = get_below clauses p.0 kl in
      (p.0, a.0, a.1, g.same.1 p.0 a.0 c a.1 p.1)

  closed_at : (j : ℕ) → j < t.level → IsClosed (known_after formula lines) (IsTrueBy t.entries j)
  closed_at j below c i l il others =
      let a = in_arena c i in
      s.quiet j below a.0 a.1 a.2 l ((a.3 l).1 il) (λ m im ne. others m ((a.3 m).0 im) ne)

  by_is_true : (j : ℕ) (l : Lit) → IsTrueBy t.entries j l → IsTrueLit t.entries l
  by_is_true j l h = (h.0, h.1)

  known_filled : (c : Clause) → IsKnown c (known_after formula lines) → c ≢ []
  known_filled c i e =
      let a = in_arena c i in
      empty a.1 (s.filled a.0 a.1 a.2) (λ l il. subst (λ q. In l q) e ((a.3 l).0 il))
    where
      empty : (a : Clause) → a ≢ [] → ((l : Lit) → In l a → ⊥) → ⊥
      empty [] ne never = ne refl
      empty (l ∷ a) ne never = never l (inl refl)

  lesson_new : (x : Lit) (lits : List Lit) (hints : List ℕ) → 0 < t.level → IsLesson clauses t x lits hints → IsNew (known_after formula lines) lits
  lesson_new x lits hints up lesson = (x, new_by (known_after formula lines) (IsTrueBy t.entries j) lits x (closed_at j jl) cons known_filled lesson.holds start not_true not_false)
    where
      j : ℕ
      j = t.level - 1

      jl : j < t.level
      jl = omega (arith, up)

      cons : IsConsistent (IsTrueBy t.entries j)
      cons l a b = consistent t s.trail l (by_is_true j l a) (by_is_true j (opposite l) b)

      start : (l : Lit) → OthersFalse lits x l → IsTrueBy t.entries j l
      start l h = let f = lesson.lower (opposite l) h.0 h.1 in (f.0, (f.1.0, f.1.1 ∙ opposite_twice l), omega (arith, f.3))

      not_true : IsTrueBy t.entries j x → ⊥
      not_true h = consistent t s.trail x (by_is_true j x h) (lesson.asserting.0, lesson.asserting.1)

      not_false : IsTrueBy t.entries j (opposite x) → ⊥
      not_false h =
          let place : h.0 ≡ lesson.asserting.0 = at_one t s.trail h.0 lesson.asserting.0 (opposite x) h.1 lesson.asserting.1 in
          let levels : (entry_at t.entries h.0).level ≡ (entry_at t.entries lesson.asserting.0).level = ap (λ q. (entry_at t.entries q).level) place in
          omega (arith, levels, h.2, lesson.asserting.2, up)

  now_live : LiveAre (live_after (first_live formula) lines) clauses
  now_live = live_are formula clauses lines g.same g.counts

  lesson_follows : (id : ℕ) (x : Lit) (lits : List Lit) (hints : List ℕ) → length formula < id → IsLesson clauses t x lits hints →
      LineFollows t.variables (length formula) (live_after (first_live formula) lines) (Add id lits hints)
  lesson_follows id x lits hints above lesson =
      let lead = lesson.leads (live_after (first_live formula) lines) now_live in (
        record {
          id_above = above;
          within = λ l i. (lesson_within clauses t x lits hints s.trail lesson l i).1;
          one_sign = λ l i k. consistent t s.trail (opposite l) (lesson_false clauses t x lits hints lesson l i) (lesson_false clauses t x lits hints lesson (opposite l) k);
          some_hint = hints_some (live_after (first_live formula) lines) lits hints lead;
        },
        lead,
      )

  -- a lesson is one more line of the progress log
  pub learn_line : (id : ℕ) (x : Lit) (lits : List Lit) (hints : List ℕ) → id ≡ suc (length clauses) → 0 < t.level → IsLesson clauses t x lits hints →
      IsLogged formula t.variables (clauses ++ lits ∷ []) (lines ++ Add id lits hints ∷ [])
  learn_line id x lits hints is up lesson = record {
    same = subst (λ q. AreSameSets (clauses ++ lits ∷ []) q) (append_assoc formula (added lines) (lits ∷ []) ∙ ap (λ q. formula ++ q) (sym (added_push lines id lits hints))) (same_push clauses (formula ++ added lines) lits g.same);
    counts = counts_push lines (suc (length formula)) id lits hints g.counts id_is;
    progress = progress_push t.variables (length formula) lines (first_live formula) formula id lits hints g.progress (lesson_follows id x lits hints (omega (arith, id_is)) lesson) (record { some = filled; positive = λ l i. (lesson_within clauses t x lits hints s.trail lesson l i).0; once = lesson.once; new = lesson_new x lits hints up lesson });
  }
    where
      id_is : id ≡ suc (length formula) + length lines
      id_is = omega (arith, is, logged_length formula t.variables clauses lines g)

      filled : lits ≢ []
      filled e = subst (λ q. In x q) e lesson.holds

  -- refuting hints give a last, empty line
  pub refute_line : (id : ℕ) (hints : List ℕ) → id ≡ suc (length clauses) → AreRefuting clauses hints → Refutes t.variables formula (lines ++ Add id [] hints ∷ [])
  refute_line id hints is refuting = record {
    follow = follow_push t.variables (length formula) lines (first_live formula) (Add id [] hints) (progress_follows t.variables (length formula) lines (first_live formula) formula g.progress) (
      record {
        id_above = omega (arith, is, logged_length formula t.variables clauses lines g);
        within = λ l i. absurd i;
        one_sign = λ l i. absurd i;
        some_hint = hints_some (live_after (first_live formula) lines) [] hints lead;
      },
      lead,
    );
    empty = empty_last lines id hints;
  }
    where
      lead : HintsLead (live_after (first_live formula) lines) [] hints
      lead = refuting (live_after (first_live formula) lines) now_live
