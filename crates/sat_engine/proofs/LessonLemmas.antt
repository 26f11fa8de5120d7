-- From a conflict down to the first point of implication.
use Rattle.std.proofs.Common.{◌≡◌, ◌≢◌, ◌⊎◌, ℕ, suc, ◌<◌, ◌≤◌, Bool, true, false, not, List, [], ◌∷◌, length, Some, slice_get, refl, sym, ap, ◌∙◌, subst, inl, inr, arith}
use Rattle.sat_trail.proofs.LitLemmas.{opposite_twice, opposite_back}
use Rattle.proof_check.specs.Following.{Live}
use Rattle.std.proofs.lemmas.Bool.{cases_eq, cases_lt}
use Rattle.clause_arena.specs.Clauses.{Lit, opposite, Clause, In, HasEachVariableOnce}
use Rattle.sat_trail.specs.Trails.{TrailState, entry_at, IsTrail, IsAt, IsAssigned}
use Rattle.sat_engine.specs.Steps.{IsConsistent, CutLeads}
use Rattle.sat_engine.proofs.LearnLemmas.{leads_first, leads_more}
use Rattle.sat_engine.specs.Lessons.{SeenAt, IsTrueLit, IsCut, LiveAre, IsLesson, Analysing, AreRefuting, Gathers, IsPoint, IsReason, IsMarked, flag}

module _ (t : TrailState) (trail : IsTrail t) where
  -- one variable, one place
  pub one_place : (p q : ℕ) → p < length t.entries → q < length t.entries → (entry_at t.entries p).lit.var ≡ (entry_at t.entries q).lit.var → p ≡ q
  one_place p q pl ql e = elim (cases_eq p q) [
    | inl same ↦ same
    | inr other ↦ elim (cases_lt p q) [
      | inl before ↦ absurd (trail.distinct p q before ql e)
      | inr after ↦ absurd (trail.distinct q p (omega arith) pl (sym e))
    ]
  ]

  pub at_one : (p q : ℕ) (l : Lit) → IsAt t.entries p l → IsAt t.entries q l → p ≡ q
  at_one p q l a b = one_place p q a.0 b.0 (ap (λ m. m.var) (a.1 ∙ sym b.1))

  bit_differs : (b : Bool) → b ≡ not b → ⊥
  bit_differs true e = cc
  bit_differs false e = cc

  pub consistent : IsConsistent (IsTrueLit t.entries)
  consistent l a b =
      let same : a.0 ≡ b.0 = one_place a.0 b.0 a.1.0 b.1.0 (ap (λ m. m.var) a.1.1 ∙ sym (ap (λ m. m.var) b.1.1)) in
      let both : l ≡ opposite l = sym a.1.1 ∙ ap (λ q. (entry_at t.entries q).lit) same ∙ b.1.1 in
      bit_differs l.negated (ap (λ m. m.negated) both)

  -- with one literal of the present level and none of level 0 left, the line of the seen ones follows
  pub finish : (clauses : List Clause) (seen : List Bool) (others : List Lit) (hints : List ℕ) → Analysing clauses t seen 0 0 others hints → (r : ℕ) (x : Lit) → IsPoint t seen r x →
      (lits : List Lit) → In x lits → ((m : Lit) → In m lits → (m ≡ x) ⊎ In m others) → ((m : Lit) → In m others → In m lits) → HasEachVariableOnce lits → IsLesson clauses t x lits hints
  finish clauses seen others hints a r x point lits ix split keep once = record {
    leads = λ live are. (a.leads live are).lead lits sub falses avoid;
    holds = ix;
    asserting = (r, point.at, point.level);
    lower = λ m i ne. elim (split m i) [
      | inl same ↦ absurd (ne same)
      | inr j ↦ let f = a.gathers.lower m j in (f.0, f.1, f.2, f.3)
    ];
    once = once;
  }
    where
      sub : (m : Lit) → IsCut t.entries seen m → In m lits
      sub m h = elim (cases_eq (entry_at t.entries h.0).level 0) [
        | inl zero_level ↦ absurd (a.zeros h.0 (omega arith) h.1.0 zero_level h.2)
        | inr high ↦ elim (cases_lt (entry_at t.entries h.0).level t.level) [
          | inl low ↦ keep m (subst (λ n. In n others) (ap opposite h.1.1 ∙ opposite_twice m) (a.gathers.gathered h.0 h.1.0 (omega (arith, high)) low h.2))
          | inr top ↦
              let here : (entry_at t.entries h.0).level ≡ t.level = omega (arith, top, trail.below h.0 h.1.0) in
              let place : h.0 ≡ r = point.alone h.0 h.1.0 here h.2 in
              let same : opposite m ≡ opposite x = sym h.1.1 ∙ ap (λ q. (entry_at t.entries q).lit) place ∙ point.at.1 in
              subst (λ n. In n lits) (sym (opposite_back m x same)) ix
        ]
      ]

      falses : (m : Lit) → In m lits → IsTrueLit t.entries (opposite m)
      falses m i = elim (split m i) [
        | inl same ↦ (r, (point.at.0, point.at.1 ∙ ap opposite (sym same)))
        | inr j ↦ let f = a.gathers.lower m j in (f.0, f.1)
      ]

      avoid : (s : Lit) → In s a.resolved → In (opposite s) lits → ⊥
      avoid s i j =
          let g = a.gone s i in
          elim (split (opposite s) j) [
            | inl same ↦
                let place : g.0 ≡ r = at_one g.0 r s g.1 (point.at.0, point.at.1 ∙ ap opposite (sym same) ∙ opposite_twice s) in
                g.2 (subst (λ q. SeenAt t.entries seen q) (sym place) point.here)
            | inr k ↦
                let f = a.gathers.lower (opposite s) k in
                let place : g.0 ≡ f.0 = at_one g.0 f.0 s g.1 (f.1.0, f.1.1 ∙ opposite_twice s) in
                g.2 (subst (λ q. SeenAt t.entries seen q) (sym place) f.4)
          ]

  -- at level 0 nothing is left
  pub finish_refuted : (clauses : List Clause) (seen : List Bool) (others : List Lit) (hints : List ℕ) → t.level ≡ 0 → Analysing clauses t seen 0 0 others hints → AreRefuting clauses hints
  finish_refuted clauses seen others hints ground a live are = (a.leads live are).lead [] sub (λ m i. absurd i) (λ s i j. absurd j)
    where
      sub : (m : Lit) → IsCut t.entries seen m → In m []
      sub m h = absurd (a.zeros h.0 (omega arith) h.1.0 (omega (arith, trail.below h.0 h.1.0, ground)) h.2)

  -- a seen literal at place r is resolved with its reason, whose other literals weren't resolved; z2 bounds level 0 afterwards
  module _ (clauses : List Clause) (seen new : List Bool) (p p2 z z2 : ℕ) (others more : List Lit) (hints : List ℕ) (a : Analysing clauses t seen p z others hints)
      (r id : ℕ) (c : Clause) (rl : r < length t.entries) (here : SeenAt t.entries seen r) (reason : IsReason clauses t.entries r id c) (marked : IsMarked t.entries seen new r c)
      (z_le : z2 ≤ z) (z_r : (entry_at t.entries r).level ≡ 0 → z2 ≤ r) (p_le : p2 ≤ p) (p_r : 0 < (entry_at t.entries r).level → p2 ≤ r)
      (fresh_places : (s : Lit) → In s a.resolved → (q : ℕ) → IsAt t.entries q s → r < q)
      (new_zeros : (q : ℕ) → z2 ≤ q → q < length t.entries → (entry_at t.entries q).level ≡ 0 → SeenAt t.entries new q → ⊥)
      (gathers : Gathers t new more) (owned : (v : ℕ) → 0 < v → flag new v ≡ true → IsAssigned t.entries v) (fits : length new ≡ t.variables) where
    x : Lit
    x = (entry_at t.entries r).lit

    -- what comes to the seen ones stands before r
    came_before : (q : ℕ) → q < length t.entries → SeenAt t.entries new q → ((q ≢ r) × SeenAt t.entries seen q) ⊎ (q < r)
    came_before q ql s = elim (marked.from q ql s) [
      | inl old ↦ inl old
      | inr came ↦
          let o = reason.others came.0 came.1 came.2 in
          let place : q ≡ o.0 = at_one q o.0 (opposite came.0) (ql, came.3) o.1 in
          inr (omega (arith, place, o.2))
    ]

    gone : (s : Lit) → In s ((entry_at t.entries r).lit ∷ a.resolved) → (q : ℕ) × IsAt t.entries q s × (SeenAt t.entries new q → ⊥) × ((entry_at t.entries q).level ≡ 0 → z2 ≤ q) × (0 < (entry_at t.entries q).level → p2 ≤ q)
    gone s (inl same) = (r, (rl, sym same), (λ n. elim (came_before r rl n) [ inl old ↦ old.0 refl | inr less ↦ omega (arith, less) ]), z_r, p_r)
    gone s (inr i) =
        let g = a.gone s i in
        let after = fresh_places s i g.0 g.1 in
        (g.0, g.1, (λ n. elim (came_before g.0 g.1.0 n) [ inl old ↦ g.2 old.1 | inr less ↦ omega (arith, less, after) ]), (λ e. omega (arith, g.3 e, z_le)), λ u. omega (arith, g.4 u, p_le))

    fresh : In (entry_at t.entries r).lit a.resolved → ⊥
    fresh i = omega (arith, fresh_places (entry_at t.entries r).lit i r (rl, refl))

    cut : (m : Lit) → IsCut t.entries seen m → (m ≡ opposite (entry_at t.entries r).lit) ⊎ IsCut t.entries new m
    cut m h = elim (cases_eq h.0 r) [
      | inl same ↦ inl (sym (ap (λ q. opposite (entry_at t.entries q).lit) (sym same) ∙ ap opposite h.1.1 ∙ opposite_twice m))
      | inr other ↦ inr (h.0, h.1, marked.stay h.0 h.1.0 other h.2)
    ]

    leads : (live : Live) → LiveAre live clauses → CutLeads live (IsTrueLit t.entries) (IsCut t.entries new) ((entry_at t.entries r).lit ∷ a.resolved) (suc id ∷ hints)
    leads live are =
        let d = are id c reason.clause in
        subst (λ h. CutLeads live (IsTrueLit t.entries) (IsCut t.entries new) ((entry_at t.entries r).lit ∷ a.resolved) (suc id ∷ h)) (sym a.head.2)
        (leads_more live (IsTrueLit t.entries) (IsCut t.entries seen) (IsCut t.entries new) a.resolved (entry_at t.entries r).lit (suc id) d.0 a.head.0 a.head.1 consistent d.1 ((d.2 (entry_at t.entries r).lit).0 reason.holds) (r, (rl, refl)) fresh cut
        (λ m i ne. let j = (d.2 m).1 i in let o = reason.others m j ne in (o.0, o.1, marked.come o.0 m o.1.0 j ne o.1.1))
        (subst (λ h. CutLeads live (IsTrueLit t.entries) (IsCut t.entries seen) a.resolved h) a.head.2 (a.leads live are)))

    pub resolve : Analysing clauses t new p2 z2 more (suc id ∷ hints)
    resolve = record {
      resolved = (entry_at t.entries r).lit ∷ a.resolved;
      gone = gone;
      leads = leads;
      head = (suc id, hints, refl);
      zeros = new_zeros;
      gathers = gathers;
      owned = owned;
      fits = fits;
    }

  pub start : (clauses : List Clause) (seen : List Bool) (others : List Lit) (id : ℕ) (c : Clause) → slice_get clauses id ≡ Some c →
      ((m : Lit) → In m c → IsCut t.entries seen m) → Gathers t seen others → ((v : ℕ) → 0 < v → flag seen v ≡ true → IsAssigned t.entries v) → length seen ≡ t.variables →
      Analysing clauses t seen (length t.entries) (length t.entries) others (suc id ∷ [])
  start clauses seen others id c is cut gathers owned fits = record {
    resolved = [];
    gone = λ r i. absurd i;
    leads = λ live are. let d = are id c is in leads_first live (IsTrueLit t.entries) (IsCut t.entries seen) (suc id) d.0 d.1 (λ m i. cut m ((d.2 m).1 i));
    head = (suc id, [], refl);
    zeros = λ q zq ql. absurd (omega (arith, zq, ql));
    gathers = gathers;
    owned = owned;
    fits = fits;
  }
