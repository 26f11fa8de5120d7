-- The walk down the trail, step by step.
use Rattle.std.proofs.Common.{◌≡◌, ◌≢◌, ◌⊎◌, ℕ, zero, suc, ◌+◌, ◌-◌, ◌<◌, ◌≤◌, Bool, true, false, List, [], ◌∷◌, ◌++◌, take, reverse, length, Option, Some, None, slice_get, slice_set, refl, sym, ap, ◌∙◌, subst, inl, inr, arith, length-take-le, length-set, get_or-take, get_or-set_same, get_or-set_other}
use Rattle.sat_trail.specs.Propagation.{IsFalseIn}
use Rattle.std.specs.List.{All}
use Rattle.std.proofs.lemmas.Bool.{cases_eq, cases_lt}
use Rattle.std.proofs.lemmas.List.{reverse-append}
use Rattle.clause_arena.specs.Clauses.{Lit, opposite, Clause, In}
use Rattle.sat_trail.specs.Trails.{Entry, TrailState, entry_at, no_entry, true_lits, IsTrail, IsTrueBy, IsAt, IsAssigned}
use Rattle.sat_trail.proofs.LitLemmas.{opposite_twice, same_lit}
use Rattle.clause_arena.specs.Arenas.{clause_at}
use Rattle.sat_engine.specs.Findings.{HasReason}
use Rattle.sat_engine.specs.Searches.{AreExplained, AreFilled, AreQuietBelow}
use Rattle.sat_engine.specs.Lessons.{SeenAt, IsTrueLit, IsCut, IsLesson, IsClear, IsPoint, Analysing, IsReason, IsMarked, Gathers, MarksAll, Walking, Touches, IsUnmarked, IsSameAbove, flag}
use Rattle.sat_engine.proofs.LessonLemmas.{one_place, at_one, consistent, start, resolve, finish}
use Rattle.sat_engine.proofs.PlaceLemmas.{in_split, true_at}
use Rattle.sat_trail.proofs.TrailLemmas.{in_more, in_last}
use Rattle.sat_engine.proofs.MarkLemmas.{less_other, less_here, less_var, less_count, once_push, two_open, none_open, one_open}

pub get_is : (clauses : List Clause) (id : ℕ) → id < length clauses → slice_get clauses id ≡ Some (clause_at clauses id)
get_is [] id l = absurd (omega (arith, l))
get_is (c ∷ clauses) zero l = refl
get_is (c ∷ clauses) (suc id) l = get_is clauses id (omega (arith, l))

none_some : {A : Type 0} (o : Option A) (a : A) → o ≡ None → o ≡ Some a → ⊥
none_some o a e f = cc

module _ (clauses : List Clause) (t : TrailState) (trail : IsTrail t) where
  reason_is : (p id : ℕ) → p < length t.entries → AreExplained clauses t.entries → (entry_at t.entries p).reason ≡ Some id → IsReason clauses t.entries p id (clause_at clauses id)
  reason_is p id pl explained e = elim (explained p pl) [
    | inl h ↦ of h.0 (let s : Some h.0 ≡ Some id = sym h.1 ∙ e in cc) h
    | inr first ↦ absurd (none_some _ _ first.0 e)
  ]
    where
      of : (k : ℕ) → k ≡ id → HasReason clauses (take p t.entries) (entry_at t.entries p) → IsReason clauses t.entries p id (clause_at clauses id)
      of k same h =
          let at : h.0 ≡ id = (let s : Some h.0 ≡ Some id = sym h.1 ∙ e in cc) in
          record {
            clause = get_is clauses id (omega (arith, h.2, at));
            holds = subst (λ q. In (entry_at t.entries p).lit (clause_at clauses q)) at h.3;
            others = λ m i ne.
                let f = true_at (take p t.entries) (opposite m) (h.4 m (subst (λ q. In m (clause_at clauses q)) (sym at) i) ne) in
                let n : length (take p t.entries) ≡ p = length-take-le p t.entries (omega (arith, pl)) in
                let fl : f.0 < p = omega (arith, f.1.0, n) in
                (f.0, (omega (arith, fl, pl), sym (ap (λ (x : Entry). x.lit) (get_or-take p t.entries f.0 no_entry fl)) ∙ f.1.1), fl);
          }

  pub walk_skip : (seen : List Bool) (p count : ℕ) (others : List Lit) (hints : List ℕ) → Walking clauses t seen (suc p) count others hints → ((entry_at t.entries p).level ≡ t.level → SeenAt t.entries seen p → ⊥) → Walking clauses t seen p count others hints
  walk_skip seen p count others hints w not_here = record {
    analysing = record {
      resolved = w.analysing.resolved;
      gone = λ r i. let g = w.analysing.gone r i in (g.0, g.1, g.2, g.3, λ u. omega (arith, g.4 u));
      leads = w.analysing.leads;
      head = w.analysing.head;
      zeros = w.analysing.zeros;
      gathers = w.analysing.gathers;
      owned = w.analysing.owned;
      fits = w.analysing.fits;
    };
    before = λ q pq ql level s. elim (cases_eq q p) [
      | inl same ↦ not_here (ap (λ n. (entry_at t.entries n).level) (sym same) ∙ level) (ap (λ n. flag seen (entry_at t.entries n).lit.var) (sym same) ∙ s)
      | inr other ↦ w.before q (omega (arith, pq, other)) ql level s
    ];
    counted = w.counted;
    some = w.some;
    within = omega (arith, w.within);
  }

  marked : (seen new : List Bool) (r n : ℕ) (more : List Lit) (c : Clause) (fits : length seen ≡ t.variables) (rl : r < length t.entries) (here : SeenAt t.entries seen r) →
      MarksAll t (slice_set seen ((entry_at t.entries r).lit.var - 1) false) new more c n → IsMarked t.entries seen new r c
  marked seen new r n more c fits rl here all = record {
    from = λ q ql s. elim (all.from q ql s) [
      | inl old ↦ elim (cases_eq q r) [
        | inl same ↦ absurd (let off : true ≡ false = sym old ∙ ap (λ k. flag (slice_set seen ((entry_at t.entries r).lit.var - 1) false) (entry_at t.entries k).lit.var) same ∙ less_here t trail seen fits r rl here in cc)
        | inr other ↦ inl (other, sym (less_other t trail seen fits r rl here q ql other) ∙ old)
      ]
      | inr w ↦ inr (w.0, w.1, (λ e. consistent t trail (entry_at t.entries r).lit (r, (rl, refl)) (q, (ql, w.2 ∙ ap opposite e))), w.2)
    ];
    stay = λ q ql ne s. all.stay q ql (less_other t trail seen fits r rl here q ql ne ∙ s);
    come = λ q m ql i ne e. all.come q m ql i e;
  }

  -- after the marks of a reason, what is seen has a value
  owned_after : (seen new : List Bool) (r n : ℕ) (more : List Lit) (c : Clause) (fits : length seen ≡ t.variables) (rl : r < length t.entries) (here : SeenAt t.entries seen r) → ((v : ℕ) → 0 < v → flag seen v ≡ true → IsAssigned t.entries v) →
      MarksAll t (slice_set seen ((entry_at t.entries r).lit.var - 1) false) new more c n → (v : ℕ) → 0 < v → flag new v ≡ true → IsAssigned t.entries v
  owned_after seen new r n more c fits rl here owned all v vpos e = elim (all.owned v vpos e) [
    | inl old ↦ owned v vpos (less_var t trail seen fits r rl here v vpos old)
    | inr it ↦ it
  ]

  -- where the marks of a reason come from
  new_before : (seen new : List Bool) (r n id : ℕ) (more : List Lit) (fits : length seen ≡ t.variables) (rl : r < length t.entries) (here : SeenAt t.entries seen r) → IsReason clauses t.entries r id (clause_at clauses id) →
      MarksAll t (slice_set seen ((entry_at t.entries r).lit.var - 1) false) new more (clause_at clauses id) n → (q : ℕ) → q < length t.entries → SeenAt t.entries new q → ((q ≢ r) × SeenAt t.entries seen q) ⊎ (q < r)
  new_before seen new r n id more fits rl here reason all q ql s =
      let m = marked seen new r n more (clause_at clauses id) fits rl here all in
      elim (m.from q ql s) [
        | inl old ↦ inl old
        | inr came ↦
            let o = reason.others came.0 came.1 came.2 in
            let place : q ≡ o.0 = at_one t trail q o.0 (opposite came.0) (ql, came.3) o.1 in
            inr (omega (arith, place, o.2))
      ]

  hints_push : (hints : List ℕ) (id : ℕ) → reverse (hints ++ (id + 1) ∷ []) ≡ suc id ∷ reverse hints
  hints_push hints id = reverse-append hints ((id + 1) ∷ []) ∙ ap (λ n. n ∷ reverse hints) (let e : id + 1 ≡ suc id = omega arith in e)

  pub walk_resolve : (seen new : List Bool) (r count n id : ℕ) (others more : List Lit) (hints : List ℕ) → 0 < t.level → Walking clauses t seen (suc r) count others hints → AreExplained clauses t.entries →
      (entry_at t.entries r).level ≡ t.level → SeenAt t.entries seen r → (entry_at t.entries r).reason ≡ Some id → 1 < count →
      MarksAll t (slice_set seen ((entry_at t.entries r).lit.var - 1) false) new more (clause_at clauses id) n →
      Walking clauses t new r (count - 1 + n) more (hints ++ (id + 1) ∷ [])
  walk_resolve seen new r count n id others more hints up w explained level here reason many all = record {
    analysing = subst (λ h. Analysing clauses t new r (length t.entries) more h) (sym (hints_push hints id)) step;
    before = λ q rq ql lev s. elim (new_before seen new r n id more fits rl here why all q ql s) [
      | inl old ↦ w.before q (omega (arith, rq, old.0)) ql lev old.1
      | inr less ↦ omega (arith, less, rq)
    ];
    counted = omega (arith, all.count, less_count t trail seen fits r rl here level (length t.entries) rl (omega arith), w.counted);
    some = omega (arith, many);
    within = omega (arith, w.within);
  }
    where
      fits : length seen ≡ t.variables
      fits = w.analysing.fits

      rl : r < length t.entries
      rl = omega (arith, w.within)

      why : IsReason clauses t.entries r id (clause_at clauses id)
      why = reason_is r id rl explained reason

      high : 0 < (entry_at t.entries r).level
      high = omega (arith, level, up)

      after : (s : Lit) → In s w.analysing.resolved → (q : ℕ) → IsAt t.entries q s → r < q
      after s i q at =
          let g = w.analysing.gone s i in
          let place : q ≡ g.0 = at_one t trail q g.0 s at g.1 in
          elim (cases_eq (entry_at t.entries g.0).level 0) [
            | inl ground ↦ absurd (omega (arith, g.3 ground, g.1.0))
            | inr above ↦ omega (arith, g.4 (omega (arith, above)), place)
          ]

      step : Analysing clauses t new r (length t.entries) more (suc id ∷ reverse hints)
      step = resolve t trail clauses seen new (suc r) r (length t.entries) (length t.entries) others more (reverse hints) w.analysing r id (clause_at clauses id) rl here why (marked seen new r n more (clause_at clauses id) fits rl here all)
          (omega arith) (λ e. omega (arith, e, high)) (omega arith) (λ u. omega arith) after (λ q zq ql. absurd (omega (arith, zq, ql))) all.gathers (owned_after seen new r n more (clause_at clauses id) fits rl here w.analysing.owned all) (all.same_length ∙ length-set seen _ false ∙ fits)

  -- the walk ends at the last seen literal of the present level
  pub walk_point : (seen : List Bool) (r count : ℕ) (others : List Lit) (hints : List ℕ) → Walking clauses t seen (suc r) count others hints → AreExplained clauses t.entries →
      (entry_at t.entries r).level ≡ t.level → SeenAt t.entries seen r → (count ≤ 1) ⊎ ((entry_at t.entries r).reason ≡ None) → IsPoint t seen r (opposite (entry_at t.entries r).lit)
  walk_point seen r count others hints w explained level here why = record {
    at = (rl, sym (opposite_twice (entry_at t.entries r).lit));
    level = level;
    here = here;
    alone = λ q ql lev s. elim (cases_eq q r) [
      | inl same ↦ same
      | inr ne ↦ elim (cases_lt q (suc r)) [
        | inl before ↦ elim why [
          | inl few ↦ let two = two_open t.entries seen t.level (length t.entries) r q rl ql (λ e. ne (sym e)) level lev here s in absurd (omega (arith, few, two, w.counted))
          | inr none ↦ elim (explained r rl) [
            | inl h ↦ absurd (none_some _ _ none h.1)
            | inr first ↦ let low = first.2 q (omega (arith, before, ne)) in absurd (omega (arith, low, lev, level))
          ]
        ]
        | inr after ↦ absurd (w.before q after ql lev s)
      ]
    ];
  }
    where
      rl : r < length t.entries
      rl = omega (arith, w.within)

  -- the present level may be forgotten
  pub loosen : (seen : List Bool) (p z : ℕ) (others : List Lit) (hints : List ℕ) → Analysing clauses t seen p z others hints → Analysing clauses t seen 0 z others hints
  loosen seen p z others hints a = record {
    resolved = a.resolved;
    gone = λ r i. let g = a.gone r i in (g.0, g.1, g.2, g.3, λ u. omega arith);
    leads = a.leads;
    head = a.head;
    zeros = a.zeros;
    gathers = a.gathers;
    owned = a.owned;
    fits = a.fits;
  }

  pub marks_start : (seen new : List Bool) (id n : ℕ) (others : List Lit) → IsClear seen → length seen ≡ t.variables → id < length clauses →
      IsFalseIn (clause_at clauses id) (true_lits t.entries) → MarksAll t seen new others (clause_at clauses id) n → Analysing clauses t new (length t.entries) (length t.entries) others (reverse ((id + 1) ∷ []))
  marks_start seen new id n others clear fits idl false_in all =
      subst (λ k. Analysing clauses t new (length t.entries) (length t.entries) others (k ∷ [])) (let e : suc id ≡ id + 1 = omega arith in e)
      (start t trail clauses new others id (clause_at clauses id) (get_is clauses id idl) cut all.gathers owned (all.same_length ∙ fits))
    where
      cut : (m : Lit) → In m (clause_at clauses id) → IsCut t.entries new m
      cut m i = let p = true_at t.entries (opposite m) (false_in m i) in (p.0, p.1, all.come p.0 m p.1.0 i p.1.1)

      owned : (v : ℕ) → 0 < v → flag new v ≡ true → IsAssigned t.entries v
      owned v vpos e = elim (all.owned v vpos e) [ inl old ↦ absurd (let no : true ≡ false = sym old ∙ clear v vpos in cc) | inr it ↦ it ]

  pub none_seen : (seen : List Bool) → IsClear seen → (q : ℕ) → q < length t.entries → SeenAt t.entries seen q → ⊥
  none_seen seen clear q ql s = let no : true ≡ false = sym s ∙ clear (entry_at t.entries q).lit.var (trail.within q ql).0 in cc

  pub walk_start : (seen new : List Bool) (id n : ℕ) (others : List Lit) → IsClear seen → length seen ≡ t.variables → id < length clauses →
      IsFalseIn (clause_at clauses id) (true_lits t.entries) → MarksAll t seen new others (clause_at clauses id) n → 1 ≤ n → Walking clauses t new (length t.entries) n others ((id + 1) ∷ [])
  walk_start seen new id n others clear fits idl false_in all some = record {
    analysing = marks_start seen new id n others clear fits idl false_in all;
    before = λ q pq ql. absurd (omega (arith, pq, ql));
    counted = all.count ∙ omega (arith, none_open t.entries seen t.level (length t.entries) (λ q ql e. none_seen seen clear q ql));
    some = some;
    within = omega arith;
  }

  -- a conflict with a literal of the present level marks one
  pub marks_some : (seen new : List Bool) (n r : ℕ) (others : List Lit) (c : Clause) → IsClear seen → MarksAll t seen new others c n → r < length t.entries → (entry_at t.entries r).level ≡ t.level → In (opposite (entry_at t.entries r).lit) c → 1 ≤ n
  marks_some seen new n r others c clear all rl level i =
      let s = all.come r (opposite (entry_at t.entries r).lit) rl i (sym (opposite_twice (entry_at t.entries r).lit)) in
      omega (arith, one_open t.entries new t.level (length t.entries) r rl level s, all.count, none_open t.entries seen t.level (length t.entries) (λ q ql e. none_seen seen clear q ql))

  -- level 0 ends before the bound
  pub zero_start : (seen : List Bool) (bound : ℕ) (others : List Lit) (hints : List ℕ) → bound ≤ length t.entries → ((q : ℕ) → bound ≤ q → q < length t.entries → 0 < (entry_at t.entries q).level) →
      Analysing clauses t seen 0 (length t.entries) others hints → Analysing clauses t seen 0 bound others hints
  zero_start seen bound others hints within high a = record {
    resolved = a.resolved;
    gone = λ s i. let g = a.gone s i in (g.0, g.1, g.2, (λ e. omega (arith, g.3 e, within)), g.4);
    leads = a.leads;
    head = a.head;
    zeros = λ q bq ql ground s. omega (arith, high q bq ql, ground);
    gathers = a.gathers;
    owned = a.owned;
    fits = a.fits;
  }

  -- nothing seen is of level 0 at place r
  pub zero_skip : (seen : List Bool) (r : ℕ) (others : List Lit) (hints : List ℕ) → Analysing clauses t seen 0 (suc r) others hints → (SeenAt t.entries seen r → ⊥) → Analysing clauses t seen 0 r others hints
  zero_skip seen r others hints a not_here = record {
    resolved = a.resolved;
    gone = λ s i. let g = a.gone s i in (g.0, g.1, g.2, (λ e. omega (arith, g.3 e)), g.4);
    leads = a.leads;
    head = a.head;
    zeros = λ q rq ql ground s. elim (cases_eq q r) [
      | inl same ↦ not_here (ap (λ n. flag seen (entry_at t.entries n).lit.var) (sym same) ∙ s)
      | inr other ↦ a.zeros q (omega (arith, rq, other)) ql ground s
    ];
    gathers = a.gathers;
    owned = a.owned;
    fits = a.fits;
  }

  -- a seen literal of level 0 is resolved
  module _ (seen new : List Bool) (r n id bound : ℕ) (others more : List Lit) (hints : List ℕ) (a : Analysing clauses t seen 0 (suc r) others (reverse hints)) (explained : AreExplained clauses t.entries)
      (rl : r < length t.entries) (in_bound : r < bound) (low : (q : ℕ) → q < bound → (entry_at t.entries q).level ≡ 0)
      (here : SeenAt t.entries seen r) (reason : (entry_at t.entries r).reason ≡ Some id) (all : MarksAll t (slice_set seen ((entry_at t.entries r).lit.var - 1) false) new more (clause_at clauses id) n) where
    why : IsReason clauses t.entries r id (clause_at clauses id)
    why = reason_is r id rl explained reason

    z_after : (s : Lit) → In s a.resolved → (q : ℕ) → IsAt t.entries q s → r < q
    z_after s i q at =
        let g = a.gone s i in
        let place : q ≡ g.0 = at_one t trail q g.0 s at g.1 in
        elim (cases_eq (entry_at t.entries g.0).level 0) [
          | inl ground ↦ omega (arith, g.3 ground, place)
          | inr above ↦ elim (cases_lt g.0 bound) [
            | inl inside ↦ absurd (above (low g.0 inside))
            | inr outside ↦ omega (arith, outside, place, in_bound)
          ]
        ]

    pub zero_resolve : Analysing clauses t new 0 r more (reverse (hints ++ (id + 1) ∷ []))
    zero_resolve = subst (λ h. Analysing clauses t new 0 r more h) (sym (hints_push hints id))
        (resolve t trail clauses seen new 0 0 (suc r) r others more (reverse hints) a r id (clause_at clauses id) rl here why (marked seen new r n more (clause_at clauses id) a.fits rl here all)
        (omega arith) (λ e. omega arith) (omega arith) (λ u. omega arith) z_after
        (λ q rq ql ground s. elim (new_before seen new r n id more a.fits rl here why all q ql s) [
          | inl old ↦ a.zeros q (omega (arith, rq, old.0)) ql ground old.1
          | inr less ↦ absurd (omega (arith, less, rq))
        ])
        all.gathers (owned_after seen new r n more (clause_at clauses id) a.fits rl here a.owned all) (all.same_length ∙ length-set seen _ false ∙ a.fits))

    -- and above level 0 the same ones are seen
    pub zero_above : IsSameAbove t seen new
    zero_above q ql up = (
      λ s. elim (new_before seen new r n id more a.fits rl here why all q ql s) [
        | inl old ↦ old.1
        | inr less ↦ absurd (omega (arith, low q (omega (arith, less, in_bound)), up))
      ],
      λ s. (marked seen new r n more (clause_at clauses id) a.fits rl here all).stay q ql (λ e. omega (arith, up, low r in_bound, ap (λ k. (entry_at t.entries k).level) e)) s,
    )

-- nothing is gathered at first
pub gathers_none : (t : TrailState) (seen : List Bool) → IsTrail t → IsClear seen → Gathers t seen []
gathers_none t seen trail clear = record {
  lower = λ m i. absurd i;
  gathered = λ q ql up low s. absurd (let no : true ≡ false = sym s ∙ clear (entry_at t.entries q).lit.var (trail.within q ql).0 in cc);
  once = tt;
}

-- one more mark taken away
pub unmark_more : (old mid : List Bool) (c : List Lit) (x : Lit) → 0 < x.var → x.var ≤ length mid → IsUnmarked old mid c → IsUnmarked old (slice_set mid (x.var - 1) false) (c ++ x ∷ [])
unmark_more old mid c x pos fits before v vpos e = elim (cases_eq v x.var) [
  | inl same ↦ absurd (let no : true ≡ false = sym e ∙ ap (flag (slice_set mid (x.var - 1) false)) same ∙ get_or-set_same mid (x.var - 1) false false (omega (arith, pos, fits)) in cc)
  | inr other ↦
      let b = before v vpos (sym (get_or-set_other mid (x.var - 1) (v - 1) false false (omega (arith, other, pos, vpos))) ∙ e) in
      (b.0, λ m i. elim (in_split c x m i) [ inl old ↦ b.1 m old | inr is ↦ λ f. other (sym f ∙ ap (λ (l : Lit). l.var) is) ])
]

-- a conflict above level 0 holds a literal of its level
pub touches : (clauses : List Clause) (t : TrailState) (id : ℕ) → IsTrail t → 0 < t.level → id < length clauses → AreFilled clauses → AreQuietBelow clauses t.entries t.level → IsFalseIn (clause_at clauses id) (true_lits t.entries) → Touches t (clause_at clauses id)
touches clauses t id trail up idl filled quiet false_in = elim (look (clause_at clauses id) (λ m i. true_at t.entries (opposite m) (false_in m i))) [
  | inl found ↦ found
  | inr low ↦ absurd (none (clause_at clauses id) (filled id (clause_at clauses id) (get_is clauses id idl)) (get_is clauses id idl) low)
]
  where
    look : (c : Clause) → ((m : Lit) → In m c → IsTrueLit t.entries (opposite m)) → Touches t c ⊎ ((m : Lit) → In m c → IsTrueBy t.entries (t.level - 1) (opposite m))
    look [] false_of = inr (λ m i. absurd i)
    look (l ∷ c) false_of =
        let f = false_of l (inl refl) in
        elim (cases_eq (entry_at t.entries f.0).level t.level) [
          | inl here ↦ inl (f.0, f.1.0, here, inl (ap opposite f.1.1 ∙ opposite_twice l))
          | inr other ↦ elim (look c (λ m i. false_of m (inr i))) [
            | inl found ↦ inl (found.0, found.1, found.2, inr found.3)
            | inr low ↦ inr (λ m i. elim i [
              | inl same ↦ (f.0, (f.1.0, f.1.1 ∙ ap opposite (sym same)), omega (arith, trail.below f.0 f.1.0, other))
              | inr j ↦ low m j
            ])
          ]
        ]

    none : (c : Clause) → c ≢ [] → slice_get clauses id ≡ Some c → ((m : Lit) → In m c → IsTrueBy t.entries (t.level - 1) (opposite m)) → ⊥
    none [] ne is low = ne refl
    none (l ∷ c) ne is low =
        let tl = quiet (t.level - 1) (omega (arith, up)) id (l ∷ c) is l (inl refl) (λ m i d. low m i) in
        let fl = low l (inl refl) in
        consistent t trail l (tl.0, tl.1) (fl.0, fl.1)

-- the line's literals, and that afterwards no variable is seen
pub lesson_of : (clauses : List Clause) (t : TrailState) (seen : List Bool) (others : List Lit) (hints : List ℕ) (r : ℕ) (x : Lit) → IsTrail t → Analysing clauses t seen 0 0 others hints → IsPoint t seen r x → IsLesson clauses t x (others ++ x ∷ []) hints
lesson_of clauses t seen others hints r x trail a point =
    finish t trail clauses seen others hints a r x point (others ++ x ∷ []) (in_last others x)
    (λ m i. elim (in_split others x m i) [ inl old ↦ inr old | inr is ↦ inl is ]) (λ m i. in_more others (x ∷ []) m i)
    (once_push others x a.gathers.once (λ m i e.
    let f = a.gathers.lower m i in
    let place : f.0 ≡ r = one_place t trail f.0 r f.1.0 point.at.0 (ap (λ (l : Lit). l.var) f.1.1 ∙ e ∙ sym (ap (λ (l : Lit). l.var) point.at.1)) in
    omega (arith, f.3, point.level, ap (λ q. (entry_at t.entries q).level) place)))

pub clear_of : (clauses : List Clause) (t : TrailState) (seen seen2 : List Bool) (others : List Lit) (hints : List ℕ) (r : ℕ) (x : Lit) → IsTrail t → Analysing clauses t seen 0 0 others hints → IsPoint t seen r x → IsUnmarked seen seen2 (others ++ x ∷ []) → IsClear seen2
clear_of clauses t seen seen2 others hints r x trail a point unmarked v vpos = of_flag (flag seen2 v) refl
  where
    gone : flag seen2 v ≡ true → ⊥
    gone e =
        let u = unmarked v vpos e in
        let o = a.owned v vpos u.0 in
        let s : SeenAt t.entries seen o.0 = ap (flag seen) o.2 ∙ u.0 in
        elim (cases_eq (entry_at t.entries o.0).level 0) [
          | inl ground ↦ a.zeros o.0 (omega arith) o.1 ground s
          | inr high ↦ elim (cases_lt (entry_at t.entries o.0).level t.level) [
            | inl low ↦ u.1 (opposite (entry_at t.entries o.0).lit) (in_more others (x ∷ []) _ (a.gathers.gathered o.0 o.1 (omega (arith, high)) low s)) o.2
            | inr top ↦
                let place : o.0 ≡ r = point.alone o.0 o.1 (omega (arith, top, trail.below o.0 o.1)) s in
                u.1 x (in_last others x) (sym (ap (λ (l : Lit). l.var) point.at.1) ∙ ap (λ q. (entry_at t.entries q).lit.var) (sym place) ∙ o.2)
          ]
        ]

    of_flag : (b : Bool) → flag seen2 v ≡ b → flag seen2 v ≡ false
    of_flag true e = absurd (gone e)
    of_flag false e = e

-- the point of implication stays one where above level 0 the same ones are seen
pub point_stays : (t : TrailState) (seen seen2 : List Bool) (r : ℕ) (x : Lit) → 0 < t.level → IsPoint t seen r x → IsSameAbove t seen seen2 → IsPoint t seen2 r x
point_stays t seen seen2 r x up point above = record {
  at = point.at;
  level = point.level;
  here = (above r point.at.0 (omega (arith, point.level, up))).1 point.here;
  alone = λ q ql lev s. point.alone q ql lev ((above q ql (omega (arith, lev, up))).0 s);
}

-- each literal of a lesson is false
pub lesson_false : (clauses : List Clause) (t : TrailState) (x : Lit) (lits : List Lit) (hints : List ℕ) → IsLesson clauses t x lits hints → (l : Lit) → In l lits → IsTrueLit t.entries (opposite l)
lesson_false clauses t x lits hints lesson l i = elim (same_lit l x) [
  | inl same ↦ (lesson.asserting.0, (lesson.asserting.1.0, lesson.asserting.1.1 ∙ ap opposite (sym same)))
  | inr other ↦ let f = lesson.lower l i other in (f.0, f.1)
]

pub lesson_within : (clauses : List Clause) (t : TrailState) (x : Lit) (lits : List Lit) (hints : List ℕ) → IsTrail t → IsLesson clauses t x lits hints → (l : Lit) → In l lits → (0 < l.var) × (l.var ≤ t.variables)
lesson_within clauses t x lits hints trail lesson l i =
    let f = lesson_false clauses t x lits hints lesson l i in
    let w = trail.within f.0 f.1.0 in
    let v : (entry_at t.entries f.0).lit.var ≡ l.var = ap (λ (m : Lit). m.var) f.1.1 in
    (omega (arith, w.0, v), omega (arith, w.1, v))

pub all_of : (c : List Lit) (n : ℕ) → ((l : Lit) → In l c → l.var ≤ n) → All (λ l. l.var ≤ n) c
all_of [] n h k d kl = absurd (omega (arith, kl))
all_of (l ∷ c) n h zero d kl = h l (inl refl)
all_of (l ∷ c) n h (suc k) d kl = all_of c n (λ m i. h m (inr i)) k d (omega (arith, kl))
