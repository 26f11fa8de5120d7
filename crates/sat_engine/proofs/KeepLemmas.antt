-- Each step of the search keeps what it rests on.
use Rattle.std.proofs.Common.{◌≡◌, ◌≢◌, ◌⊎◌, ℕ, zero, suc, ◌+◌, ◌-◌, ◌<◌, ◌≤◌, Bool, true, false, not, List, [], ◌∷◌, ◌++◌, take, length, Option, Some, None, IsSome, slice_get, refl, sym, ap, ◌∙◌, subst, inl, inr, arith, length-append}
use Rattle.watch_lists.proofs.TrailFacts.{place_true}
use Rattle.sat_engine.specs.Steps.{IsWithin}
use Rattle.proof_check.specs.Progress.{IsKnown}
use Rattle.sat_trail.specs.Propagation.{IsQuiet}
use Rattle.std.proofs.lemmas.Bool.{cases_eq, cases_lt}
use Rattle.std.proofs.lemmas.List.{take-append-le}
use Rattle.std.proofs.Math.Seq.{take-append_seam}
use Rattle.std.specs.List.{All}
use Rattle.clause_arena.specs.Clauses.{Lit, opposite, Clause, In}
use Rattle.sat_trail.specs.Trails.{Entry, TrailState, entry_at, true_lits, IsTrail, IsCutTo, IsUnassigned, IsAt, IsTrueBy}
use Rattle.sat_trail.proofs.LitLemmas.{opposite_twice, same_lit}
use Rattle.clause_arena.specs.Arenas.{clause_at}
use Rattle.sat_engine.specs.Findings.{HasReason, AllQuiet, AllWithin}
use Rattle.watch_lists.specs.Watching.{Watching, listed, IsGrown, HasWatchedReason}
use Rattle.sat_engine.specs.Lessons.{IsTrueLit, IsLesson}
use Rattle.sat_engine.specs.Searches.{AreQuietBelow, AreExplained, IsAttached, IsSearching, AreListed, IsJump, IsWatchedOrTrue}
use Rattle.sat_engine.proofs.LessonLemmas.{at_one, consistent}
use Rattle.sat_engine.proofs.PlaceLemmas.{quiet_true, true_at}
use Rattle.sat_engine.proofs.WalkLemmas.{get_is, lesson_within}
use Rattle.sat_engine.proofs.JumpLemmas.{first_part, last_part, more_true, less_true, quiet_cut, quiet_grow, quiet_push, quiet_open, explained_cut, explained_more, get_push}

pub get_below : (cs : List Clause) (k : ℕ) (c : Clause) → slice_get cs k ≡ Some c → k < length cs
get_below [] k c e = cc
get_below (d ∷ cs) zero c e = omega arith
get_below (d ∷ cs) (suc k) c e = omega (arith, get_below cs k c e)

-- the clause at a place
pub at_get : (cs : List Clause) (k : ℕ) (c : Clause) → slice_get cs k ≡ Some c → clause_at cs k ≡ c
at_get cs k c e = let s : Some (clause_at cs k) ≡ Some c = sym (get_is cs k (get_below cs k c e)) ∙ e in cc

pub known_at : (cs : List Clause) (k : ℕ) → k < length cs → IsKnown (clause_at cs k) cs
known_at [] k l = absurd (omega (arith, l))
known_at (c ∷ cs) zero l = inl refl
known_at (c ∷ cs) (suc k) l = inr (known_at cs k (omega (arith, l)))

all_from : (c : Clause) (n : ℕ) → ((l : Lit) → In l c → (0 < l.var) × (l.var ≤ n)) → All (λ l. l.var ≤ n) c
all_from [] n h k d kl = absurd (omega (arith, kl))
all_from (l ∷ c) n h zero d kl = (h l (inl refl)).1
all_from (l ∷ c) n h (suc k) d kl = all_from c n (λ m i. h m (inr i)) k d (omega (arith, kl))

pub within_at : (cs : List Clause) (n : ℕ) → IsWithin cs n → AllWithin cs n
within_at cs n within k l = all_from (clause_at cs k) n (within (clause_at cs k) (known_at cs k l))

-- what is explained stays so where each new entry is
pub explained_grow : (clauses : List Clause) (xs ys : List Entry) → AreExplained clauses xs →
    ((p : ℕ) → length xs ≤ p → p < length (xs ++ ys) → HasReason clauses (take p (xs ++ ys)) (entry_at (xs ++ ys) p) ⊎ (((entry_at (xs ++ ys) p).reason ≡ None) × (0 < (entry_at (xs ++ ys) p).level) × ((q : ℕ) → q < p → (entry_at (xs ++ ys) q).level < (entry_at (xs ++ ys) p).level))) →
    AreExplained clauses (xs ++ ys)
explained_grow clauses xs ys old new p l = elim (cases_lt p (length xs)) [
  | inl within ↦
      let e = first_part xs ys p within in
      let before : take p (xs ++ ys) ≡ take p xs = take-append-le p xs ys (omega arith) in
      elim (old p within) [
        | inl h ↦ inl (subst (λ n. HasReason clauses (take p (xs ++ ys)) n) (sym e) (subst (λ b. HasReason clauses b (entry_at xs p)) (sym before) h))
        | inr first ↦ inr (ap (λ (n : Entry). n.reason) e ∙ first.0, omega (arith, first.1, ap (λ (n : Entry). n.level) e), λ q ql. omega (arith, first.2 q ql, ap (λ (n : Entry). n.level) e, ap (λ (n : Entry). n.level) (first_part xs ys q (omega (arith, ql, within)))))
      ]
  | inr past ↦ new p past l
]

covered_more : (w : Watching) (xs ys : List Entry) (k : ℕ) (c : Clause) → IsWatchedOrTrue w xs k c → IsWatchedOrTrue w (xs ++ ys) k c
covered_more w xs ys k c (inl a) = inl a
covered_more w xs ys k c (inr (inl b)) = inr (inl b)
covered_more w xs ys k c (inr (inr d)) = inr (inr (d.0, d.1, more_true xs ys 0 d.0 d.2))

not_opposite : (l : Lit) → opposite l ≡ l → ⊥
not_opposite l e = of_bit l.negated (ap (λ (m : Lit). m.negated) e)
  where
    of_bit : (b : Bool) → not b ≡ b → ⊥
    of_bit true e = cc
    of_bit false e = cc

-- where the attached clauses are quiet, all are
pub all_quiet : (clauses : List Clause) (w : Watching) (t : TrailState) → IsSearching clauses t → AreListed clauses w t → ((k : ℕ) → IsAttached w k → IsQuiet (clause_at clauses k) (true_lits t.entries)) → AllQuiet clauses (true_lits t.entries)
all_quiet clauses w t s listing quiet k kl = of (listing.covered k (clause_at clauses k) (get_is clauses k kl))
  where
    of : IsWatchedOrTrue w t.entries k (clause_at clauses k) → IsQuiet (clause_at clauses k) (true_lits t.entries)
    of (inl a) = quiet k a
    of (inr (inl b)) = λ l i others. elim (same_lit b.0 l) [
      | inl same ↦ subst (λ q. In q (true_lits t.entries)) (opposite_twice l) (others (opposite l) (subst (λ q. In (opposite q) (clause_at clauses k)) same b.2) (not_opposite l))
      | inr other ↦ elim (same_lit (opposite b.0) l) [
        | inl same ↦ subst (λ q. In q (true_lits t.entries)) same (others b.0 b.1 other)
        | inr more ↦
            let first = others b.0 b.1 other in
            let second = others (opposite b.0) b.2 more in
            absurd (consistent t s.trail (opposite b.0) (true_at t.entries (opposite b.0) first) (true_at t.entries (opposite (opposite b.0)) second))
      ]
    ]
    of (inr (inr d)) = quiet_true t s.trail (clause_at clauses k) d.0 d.1 (place_true t.entries d.2.0 d.0 d.2.1.0 d.2.1.1)

-- propagation
pub keep_grown : (clauses : List Clause) (w : Watching) (old new : TrailState) → IsSearching clauses old → IsGrown w clauses old new → IsTrail new → IsSearching clauses new
keep_grown clauses w old new s g trail = record {
  trail = trail;
  filled = s.filled;
  within = subst (IsWithin clauses) (sym g.variables) s.within;
  quiet = subst (λ q. AreQuietBelow clauses q new.level) (sym g.appended) (subst (AreQuietBelow clauses (old.entries ++ g.more)) (sym g.level) (quiet_grow clauses old.entries g.more old.level (λ p h. omega (arith, level_of p h)) s.quiet));
  explained = subst (AreExplained clauses) (sym g.appended) (explained_grow clauses old.entries g.more s.explained (λ p from below. inl (subst (λ q. HasReason clauses (take p q) (entry_at q p)) g.appended (plain p (g.reasons p from (omega (arith, below, ap length g.appended))).1))));
  pending = λ p from below. elim (cases_lt p (length old.entries)) [
    | inl within ↦
        let e : entry_at new.entries p ≡ entry_at old.entries p = ap (λ (es : List Entry). entry_at es p) g.appended ∙ first_part old.entries g.more p within in
        ap (λ (n : Entry). n.level) e ∙ s.pending p (omega (arith, from, g.given)) within ∙ sym g.level
    | inr past ↦ (g.reasons p past below).0 ∙ sym g.level
  ];
}
  where
    plain : (p : ℕ) → HasWatchedReason w clauses (take p new.entries) (entry_at new.entries p) → HasReason clauses (take p new.entries) (entry_at new.entries p)
    plain p h = (h.0, h.1, h.3, h.4, h.5)

    level_of : (p : ℕ) → p < length g.more → (entry_at g.more p).level ≡ old.level
    level_of p h =
        let q = length old.entries + p in
        let ql : q < length new.entries = omega (arith, h, length-append old.entries g.more, ap length g.appended) in
        let r = g.reasons q (omega arith) ql in
        let e : entry_at new.entries q ≡ entry_at g.more p = ap (λ (es : List Entry). entry_at es q) g.appended ∙ last_part old.entries g.more q p refl in
        ap (λ (n : Entry). n.level) (sym e) ∙ r.0

-- a decision after complete propagation
pub keep_decided : (clauses : List Clause) (old new : TrailState) (l : Lit) → IsSearching clauses old → AllQuiet clauses (true_lits old.entries) → old.given ≡ length old.entries →
    new ≡ record old { entries = old.entries ++ record { lit = l; level = old.level + 1; reason = None } ∷ []; level = old.level + 1 } → IsTrail new → IsSearching clauses new
keep_decided clauses old new l s quiet given is trail = record {
  trail = trail;
  filled = s.filled;
  within = subst (IsWithin clauses) (sym (ap (λ (q : TrailState). q.variables) is)) s.within;
  quiet = subst (λ q. AreQuietBelow clauses q new.level) (sym entries_is) (subst (AreQuietBelow clauses (old.entries ++ e ∷ [])) (sym level_is) (quiet_open clauses old e s.trail up s.quiet done));
  explained = subst (AreExplained clauses) (sym entries_is) (explained_grow clauses old.entries (e ∷ []) s.explained (λ p from below.
      let p_is : p ≡ length old.entries = omega (arith, from, below, length-append old.entries (e ∷ [])) in
      let here = last_part old.entries (e ∷ []) p 0 (omega (arith, p_is)) in
      inr (ap (λ (n : Entry). n.reason) here, omega (arith, ap (λ (n : Entry). n.level) here), λ q ql. let ql2 : q < length old.entries = omega (arith, ql, p_is) in omega (arith, s.trail.below q ql2, ap (λ (n : Entry). n.level) (first_part old.entries (e ∷ []) q ql2), ap (λ (n : Entry). n.level) here))));
  pending = λ p from below.
      let p_is : p ≡ length old.entries + 0 = omega (arith, from, below, given, ap (λ (q : TrailState). q.given) is, ap length entries_is, length-append old.entries (e ∷ [])) in
      ap (λ (es : List Entry). (entry_at es p).level) entries_is ∙ ap (λ (n : Entry). n.level) (last_part old.entries (e ∷ []) p 0 p_is) ∙ sym (ap (λ (q : TrailState). q.level) is);
}
  where
    e : Entry
    e = record { lit = l; level = old.level + 1; reason = None }

    up : e.level ≡ suc old.level
    up = omega arith

    entries_is : new.entries ≡ old.entries ++ e ∷ []
    entries_is = ap (λ (q : TrailState). q.entries) is

    level_is : new.level ≡ suc old.level
    level_is = ap (λ (q : TrailState). q.level) is ∙ up

    done : (k : ℕ) (c : Clause) → slice_get clauses k ≡ Some c → (m : Lit) → In m c → ((n : Lit) → In n c → n ≢ m → IsTrueLit old.entries (opposite n)) → IsTrueLit old.entries m
    done k c g m i others =
        let at = at_get clauses k c g in
        true_at old.entries m (quiet k (get_below clauses k c g) m (subst (λ q. In m q) (sym at) i) (λ n j ne. let o = others n (subst (λ q. In n q) at j) ne in place_true old.entries o.0 (opposite n) o.1.0 o.1.1))

-- a cut
pub keep_cut : (clauses : List Clause) (old new : TrailState) (level : ℕ) → IsSearching clauses old → level ≤ old.level → IsCutTo old new level → IsTrail new → IsSearching clauses new
keep_cut clauses old new level s le cut trail = record {
  trail = trail;
  filled = s.filled;
  within = subst (IsWithin clauses) (sym cut.variables) s.within;
  quiet = subst (AreQuietBelow clauses new.entries) (sym cut.level_is) (quiet_cut clauses new.entries cut.rest level old.level le cut.high (subst (λ q. AreQuietBelow clauses q old.level) cut.split s.quiet));
  explained = explained_cut clauses new.entries cut.rest (subst (AreExplained clauses) cut.split s.explained);
  pending = λ p from below.
      let e : entry_at old.entries p ≡ entry_at new.entries p = ap (λ (es : List Entry). entry_at es p) cut.split ∙ first_part new.entries cut.rest p below in
      elim (cases_lt (length new.entries) old.given) [
        | inl over ↦ absurd (omega (arith, cut.given_is.1 (omega arith), from, below))
        | inr within ↦
            let was : (entry_at old.entries p).level ≡ old.level = s.pending p (omega (arith, cut.given_is.0 within, from)) (omega (arith, below, ap length cut.split, length-append new.entries cut.rest)) in
            omega (arith, was, ap (λ (n : Entry). n.level) e, cut.low p below, le, cut.level_is)
      ];
}

-- what is listed stays so, with more entries
pub listed_more : (clauses : List Clause) (w : Watching) (old new : TrailState) (more : List Entry) → new.entries ≡ old.entries ++ more → AreListed clauses w old → AreListed clauses w new
listed_more clauses w old new more is listing = record {
  ids = listing.ids;
  covered = λ k c e. subst (λ q. IsWatchedOrTrue w q k c) (sym is) (covered_more w old.entries more k c (listing.covered k c e));
}

pub listed_cut : (clauses : List Clause) (w : Watching) (old new : TrailState) (level : ℕ) → IsCutTo old new level → AreListed clauses w old → AreListed clauses w new
listed_cut clauses w old new level cut listing = record {
  ids = listing.ids;
  covered = λ k c e. covered_less k c (subst (λ q. IsWatchedOrTrue w q k c) cut.split (listing.covered k c e));
}
  where
    covered_less : (k : ℕ) (c : Clause) → IsWatchedOrTrue w (new.entries ++ cut.rest) k c → IsWatchedOrTrue w new.entries k c
    covered_less k c (inl a) = inl a
    covered_less k c (inr (inl b)) = inr (inl b)
    covered_less k c (inr (inr d)) = inr (inr (d.0, d.1, less_true new.entries cut.rest 0 d.0 (λ p h. omega (arith, cut.high p h)) d.2))

pub clause_push_here : (cs : List Clause) (c : Clause) (k : ℕ) → k ≡ length cs → clause_at (cs ++ c ∷ []) k ≡ c
clause_push_here [] c zero e = refl
clause_push_here [] c (suc k) e = absurd (omega (arith, e))
clause_push_here (b ∷ cs) c zero e = absurd (omega (arith, e))
clause_push_here (b ∷ cs) c (suc k) e = clause_push_here cs c k (omega (arith, e))

pub get_push_at : (cs : List Clause) (d c : Clause) (k : ℕ) → slice_get (cs ++ d ∷ []) k ≡ Some c → (slice_get cs k ≡ Some c) ⊎ ((k ≡ length cs) × (d ≡ c))
get_push_at [] d c zero e = inr (refl, (let s : Some d ≡ Some c = e in cc))
get_push_at [] d c (suc k) e = absurd (let s : None ≡ Some c = e in cc)
get_push_at (x ∷ cs) d c zero e = inl e
get_push_at (x ∷ cs) d c (suc k) e = elim (get_push_at cs d c k e) [ inl old ↦ inl old | inr new ↦ inr (omega (arith, new.0), new.1) ]

pub known_push : (cs : List Clause) (d c : Clause) → IsKnown c (cs ++ d ∷ []) → IsKnown c cs ⊎ (c ≡ d)
known_push [] d c (inl same) = inr same
known_push [] d c (inr i) = absurd i
known_push (x ∷ cs) d c (inl same) = inl (inl same)
known_push (x ∷ cs) d c (inr i) = elim (known_push cs d c i) [ inl old ↦ inl (inr old) | inr new ↦ inr new ]

-- the jump that a lesson asks for
module _ (clauses : List Clause) (t cut : TrailState) (x : Lit) (lits : List Lit) (hints : List ℕ) (jump : ℕ) (s : IsSearching clauses t) (lesson : IsLesson clauses t x lits hints) (far : IsJump t x lits jump) (is_cut : IsCutTo t cut jump) where
  old_place : (q : ℕ) (l : Lit) → IsAt cut.entries q l → IsAt t.entries q l
  old_place q l at =
      let e : entry_at t.entries q ≡ entry_at cut.entries q = ap (λ (es : List Entry). entry_at es q) is_cut.split ∙ first_part cut.entries is_cut.rest q at.0 in
      (omega (arith, at.0, ap length is_cut.split, length-append cut.entries is_cut.rest), ap (λ (n : Entry). n.lit) e ∙ at.1)

  new_place : (q : ℕ) (l : Lit) → IsAt t.entries q l → (entry_at t.entries q).level ≤ jump → IsAt cut.entries q l
  new_place q l at low = elim (cases_lt q (length cut.entries)) [
    | inl within ↦
        let e : entry_at t.entries q ≡ entry_at cut.entries q = ap (λ (es : List Entry). entry_at es q) is_cut.split ∙ first_part cut.entries is_cut.rest q within in
        (within, ap (λ (n : Entry). n.lit) (sym e) ∙ at.1)
    | inr past ↦
        let p = q - length cut.entries in
        let e : entry_at t.entries q ≡ entry_at is_cut.rest p = ap (λ (es : List Entry). entry_at es q) is_cut.split ∙ last_part cut.entries is_cut.rest q p (omega arith) in
        absurd (omega (arith, is_cut.high p (omega (arith, at.0, ap length is_cut.split, length-append cut.entries is_cut.rest)), ap (λ (n : Entry). n.level) e, low))
  ]

  -- the level in the old trail
  old_level : (q : ℕ) → q < length cut.entries → (entry_at t.entries q).level ≤ jump
  old_level q ql =
      let e : entry_at t.entries q ≡ entry_at cut.entries q = ap (λ (es : List Entry). entry_at es q) is_cut.split ∙ first_part cut.entries is_cut.rest q ql in
      omega (arith, is_cut.low q ql, ap (λ (n : Entry). n.level) e)

  not_false : (q : ℕ) → IsAt cut.entries q (opposite x) → ⊥
  not_false q at =
      let place : q ≡ lesson.asserting.0 = at_one t s.trail q lesson.asserting.0 (opposite x) (old_place q (opposite x) at) lesson.asserting.1 in
      omega (arith, old_level q at.0, ap (λ p. (entry_at t.entries p).level) place, lesson.asserting.2, far.below)

  -- the asserted literal has no value after the cut
  pub jump_open : IsUnassigned cut.entries x
  jump_open = (λ i. let p = true_at cut.entries x i in consistent t s.trail x (p.0, old_place p.0 x p.1) (lesson.asserting.0, lesson.asserting.1), λ i. let p = true_at cut.entries (opposite x) i in not_false p.0 p.1)

  others_false : (m : Lit) → In m lits → m ≢ x → In (opposite m) (true_lits cut.entries)
  others_false m i ne = let h = far.high m i ne in let p = new_place h.0 (opposite m) h.1 h.2 in place_true cut.entries h.0 (opposite m) p.0 p.1

  quiet_after : AreQuietBelow clauses cut.entries jump → AreQuietBelow (clauses ++ lits ∷ []) cut.entries jump
  quiet_after quiet = elim far.some [
    | inl none ↦ λ j jl. absurd (omega (arith, jl, none))
    | inr b ↦ quiet_push clauses cut.entries jump lits x b.0 lesson.holds b.1 (λ e. b.2 (sym e)) (λ j jl h. not_false h.0 h.1)
        (λ j jl h.
        let place : h.0 ≡ b.3 = at_one t s.trail h.0 b.3 (opposite b.0) (old_place h.0 (opposite b.0) h.1) b.4 in
        let same = ap (λ (es : List Entry). entry_at es h.0) is_cut.split ∙ first_part cut.entries is_cut.rest h.0 h.1.0 in
        omega (arith, h.2, jl, b.5, ap (λ p. (entry_at t.entries p).level) place, ap (λ (n : Entry). n.level) same)) quiet
  ]

  -- the learnt clause is known, and its literal is true
  pub keep_learnt : (id : ℕ) (new : TrailState) → id ≡ length clauses → 0 < t.level → IsSearching clauses cut → new ≡ record cut { entries = cut.entries ++ record { lit = x; level = cut.level; reason = Some id } ∷ [] } → IsTrail new →
      IsSearching (clauses ++ lits ∷ []) new
  keep_learnt id new is up c now trail = record {
    trail = trail;
    filled = λ k d g. elim (get_push clauses lits d k g) [ inl old ↦ s.filled k d old | inr here ↦ λ e. subst (λ q. In x q) (here ∙ e) lesson.holds ];
    within = λ d k. elim (known_push clauses lits d k) [ inl old ↦ subst (λ n. (l : Lit) → In l d → (0 < l.var) × (l.var ≤ n)) (sym variables_are) (s.within d old) | inr here ↦ λ l i. let w = lesson_within clauses t x lits hints s.trail lesson l (subst (λ q. In l q) here i) in (w.0, omega (arith, w.1, variables_are)) ];
    quiet = subst (λ q. AreQuietBelow (clauses ++ lits ∷ []) q new.level) (sym entries_is) (subst (AreQuietBelow (clauses ++ lits ∷ []) (cut.entries ++ e ∷ [])) (sym level_is) (quiet_grow (clauses ++ lits ∷ []) cut.entries (e ∷ []) jump one (quiet_after (subst (AreQuietBelow clauses cut.entries) is_cut.level_is c.quiet))));
    explained = subst (AreExplained (clauses ++ lits ∷ [])) (sym entries_is) (explained_grow (clauses ++ lits ∷ []) cut.entries (e ∷ []) (explained_more clauses (lits ∷ []) cut.entries c.explained) (λ p from below.
        let p_is : p ≡ length cut.entries = omega (arith, from, below, length-append cut.entries (e ∷ [])) in
        let here = last_part cut.entries (e ∷ []) p 0 (omega (arith, p_is)) in
        let all : take p (cut.entries ++ e ∷ []) ≡ cut.entries = ap (λ q. take q (cut.entries ++ e ∷ [])) p_is ∙ take-append_seam cut.entries (e ∷ []) in
        inl (subst (λ n. HasReason (clauses ++ lits ∷ []) (take p (cut.entries ++ e ∷ [])) n) (sym here) (subst (λ b. HasReason (clauses ++ lits ∷ []) b e) (sym all) reason))));
    pending = λ p from below. elim (cases_lt p (length cut.entries)) [
      | inl within ↦
          let same : entry_at new.entries p ≡ entry_at cut.entries p = ap (λ (es : List Entry). entry_at es p) entries_is ∙ first_part cut.entries (e ∷ []) p within in
          ap (λ (n : Entry). n.level) same ∙ c.pending p (omega (arith, from, ap (λ (q : TrailState). q.given) now)) within ∙ sym (ap (λ (q : TrailState). q.level) now)
      | inr past ↦
          let p_is : p ≡ length cut.entries + 0 = omega (arith, past, below, ap length entries_is, length-append cut.entries (e ∷ [])) in
          ap (λ (es : List Entry). (entry_at es p).level) entries_is ∙ ap (λ (n : Entry). n.level) (last_part cut.entries (e ∷ []) p 0 p_is) ∙ sym (ap (λ (q : TrailState). q.level) now)
    ];
  }
    where
      e : Entry
      e = record { lit = x; level = cut.level; reason = Some id }

      entries_is : new.entries ≡ cut.entries ++ e ∷ []
      entries_is = ap (λ (q : TrailState). q.entries) now

      level_is : new.level ≡ jump
      level_is = ap (λ (q : TrailState). q.level) now ∙ is_cut.level_is

      variables_are : new.variables ≡ t.variables
      variables_are = ap (λ (q : TrailState). q.variables) now ∙ is_cut.variables

      one : (p : ℕ) → p < length (e ∷ []) → jump ≤ (entry_at (e ∷ []) p).level
      one zero h = omega (arith, is_cut.level_is)
      one (suc p) h = absurd (omega (arith, h))

      reason : HasReason (clauses ++ lits ∷ []) cut.entries (record { lit = x; level = cut.level; reason = Some id })
      reason = (id, refl, omega (arith, is, length-append clauses (lits ∷ [])), subst (λ q. In x q) (sym (clause_push_here clauses lits id is)) lesson.holds, λ m i ne. others_false m (subst (λ q. In m q) (clause_push_here clauses lits id is) i) ne)

-- a clause comes under watch, or its literal is true at level 0
pub listed_learnt : (clauses : List Clause) (lits : Clause) (w w2 : Watching) (cut new : TrailState) (x : Lit) (id : ℕ) (e : Entry) → id ≡ length clauses → In x lits → e.lit ≡ x → new.entries ≡ cut.entries ++ e ∷ [] →
    ((k : ℕ) → k ≢ id → listed w2 k ≡ listed w k) → IsAttached w2 id ⊎ (e.level ≡ 0) → AreListed clauses w cut → AreListed (clauses ++ lits ∷ []) w2 new
listed_learnt clauses lits w w2 cut new x id e is holds lit_is entries_is others here listing = record {
  ids = λ k a. elim (cases_eq k id) [
    | inl same ↦ omega (arith, same, is, length-append clauses (lits ∷ []))
    | inr other ↦ omega (arith, listing.ids k (subst (λ (q : Option (Lit × Lit)). IsSome q) (others k other) a), length-append clauses (lits ∷ []))
  ];
  covered = λ k d g. elim (get_push_at clauses lits d k g) [
    | inl old ↦ subst (λ q. IsWatchedOrTrue w2 q k d) (sym entries_is) (covered_more w2 cut.entries (e ∷ []) k d (wider k d (λ same. omega (arith, get_below clauses k d old, same, is)) (listing.covered k d old)))
    | inr last ↦ elim here [
      | inl a ↦ inl (subst (λ q. IsAttached w2 q) (is ∙ sym last.0) a)
      | inr ground ↦ inr (inr (x, subst (λ q. In x q) last.1 holds, subst (λ q. IsTrueBy q 0 x) (sym entries_is) (length cut.entries, (omega (arith, length-append cut.entries (e ∷ [])), ap (λ (n : Entry). n.lit) newest ∙ lit_is), omega (arith, ap (λ (n : Entry). n.level) newest, ground))))
    ]
  ];
}
  where
    newest : entry_at (cut.entries ++ e ∷ []) (length cut.entries) ≡ e
    newest = last_part cut.entries (e ∷ []) (length cut.entries) 0 (omega arith)

    wider : (k : ℕ) (d : Clause) → (k ≡ id → ⊥) → IsWatchedOrTrue w cut.entries k d → IsWatchedOrTrue w2 cut.entries k d
    wider k d ne (inl a) = inl (subst (λ (q : Option (Lit × Lit)). IsSome q) (sym (others k ne)) a)
    wider k d ne (inr (inl b)) = inr (inl b)
    wider k d ne (inr (inr f)) = inr (inr f)

two_in : (c : Clause) (a b : Lit) → In a c → In b c → b ≢ a → 2 ≤ length c
two_in [] a b i j ne = absurd i
two_in (l ∷ []) a b (inl same) (inl other) ne = absurd (ne (other ∙ sym same))
two_in (l ∷ []) a b (inl same) (inr j) ne = absurd j
two_in (l ∷ []) a b (inr i) j ne = absurd i
two_in (l ∷ m ∷ c) a b i j ne = omega arith

-- a line of one literal goes back to level 0
pub unit_ground : (t : TrailState) (x : Lit) (lits : Clause) (jump : ℕ) → In x lits → IsJump t x lits jump → length lits ≤ 1 → jump ≡ 0
unit_ground t x lits jump i far few = elim far.some [
  | inl none ↦ none
  | inr b ↦ absurd (omega (arith, two_in lits x b.0 i b.1 b.2, few))
]
