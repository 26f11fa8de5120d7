-- One more literal seen.
use Rattle.std.proofs.Common.{◌≡◌, ◌≢◌, ◌⊎◌, ℕ, zero, suc, ◌+◌, ◌-◌, ◌<◌, ◌≤◌, ◌==◌, ◌&&◌, if◌then◌else◌, Bool, true, false, List, [], ◌∷◌, ◌++◌, length, slice_set, refl, sym, ap, ◌∙◌, subst, inl, inr, arith, length-append, length-set, get_or-set_same, get_or-set_other}
use Rattle.std.proofs.lemmas.Bool.{cases_eq, eq-eqb, ne_eqb, cases_Bool}
use Rattle.clause_arena.specs.Clauses.{Lit, opposite, Clause, In, HasEachVariableOnce}
use Rattle.sat_trail.specs.Trails.{Entry, TrailState, entry_at, IsTrail, IsAt, IsAssigned}
use Rattle.sat_engine.specs.Lessons.{SeenAt, flag, open_below, Gathers, MarksOne, MarksAll}
use Rattle.sat_trail.proofs.TrailLemmas.{in_more, in_last}
use Rattle.sat_engine.proofs.LessonLemmas.{one_place, at_one}
use Rattle.sat_engine.proofs.PlaceLemmas.{in_split}
use Rattle.sat_trail.proofs.LitLemmas.{opposite_twice}

flag_same : (seen : List Bool) (v : ℕ) → 0 < v → v ≤ length seen → flag (slice_set seen (v - 1) true) v ≡ true
flag_same seen v pos fits = get_or-set_same seen (v - 1) true false (omega arith)

flag_other : (seen : List Bool) (v w : ℕ) → 0 < v → 0 < w → v ≢ w → flag (slice_set seen (w - 1) true) v ≡ flag seen v
flag_other seen v w a b ne = get_or-set_other seen (w - 1) (v - 1) true false (omega (arith, ne))

-- one more variable at the end
pub once_push : (c : List Lit) (x : Lit) → HasEachVariableOnce c → ((m : Lit) → In m c → m.var ≢ x.var) → HasEachVariableOnce (c ++ x ∷ [])
once_push [] x once differs = (λ m i. absurd i, tt)
once_push (l ∷ c) x once differs = (λ m i. elim (in_split c x m i) [ inl old ↦ once.0 m old | inr is ↦ λ e. differs l (inl refl) (sym e ∙ ap (λ (q : Lit). q.var) is) ], once_push c x once.1 (λ m i. differs m (inr i)))

module _ (t : TrailState) (trail : IsTrail t) (seen : List Bool) (others : List Lit) (x : Lit) (q0 : ℕ) (at : IsAt t.entries q0 (opposite x)) (fits : length seen ≡ t.variables) (fresh : flag seen x.var ≡ false) (gathers : Gathers t seen others) where
  abbrev pub new : List Bool
  new = slice_set seen (x.var - 1) true

  x_var : (entry_at t.entries q0).lit.var ≡ x.var
  x_var = ap (λ (l : Lit). l.var) at.1

  pos : 0 < x.var
  pos = omega (arith, (trail.within q0 at.0).0, x_var)

  in_flags : x.var ≤ length seen
  in_flags = omega (arith, (trail.within q0 at.0).1, x_var, fits)

  other_var : (q : ℕ) → q < length t.entries → q ≢ q0 → (entry_at t.entries q).lit.var ≢ x.var
  other_var q ql ne e = ne (one_place t trail q q0 ql at.0 (e ∙ sym x_var))

  flag_old : (q : ℕ) → q < length t.entries → q ≢ q0 → flag new (entry_at t.entries q).lit.var ≡ flag seen (entry_at t.entries q).lit.var
  flag_old q ql ne = flag_other seen _ x.var (trail.within q ql).0 pos (other_var q ql ne)

  from : (q : ℕ) → q < length t.entries → SeenAt t.entries new q → SeenAt t.entries seen q ⊎ ((entry_at t.entries q).lit ≡ opposite x)
  from q ql s = elim (cases_eq q q0) [
    | inl same ↦ inr (ap (λ n. (entry_at t.entries n).lit) same ∙ at.1)
    | inr other ↦ inl (sym (flag_old q ql other) ∙ s)
  ]

  come : (q : ℕ) → q < length t.entries → (entry_at t.entries q).lit ≡ opposite x → SeenAt t.entries new q
  come q ql e = ap (flag new) (ap (λ (l : Lit). l.var) e) ∙ flag_same seen x.var pos in_flags

  stay : (q : ℕ) → q < length t.entries → SeenAt t.entries seen q → SeenAt t.entries new q
  stay q ql s = elim (cases_eq q q0) [
    | inl same ↦ come q ql (ap (λ n. (entry_at t.entries n).lit) same ∙ at.1)
    | inr other ↦ flag_old q ql other ∙ s
  ]

  count_before : (n : ℕ) → n ≤ q0 → open_below t.entries new t.level n ≡ open_below t.entries seen t.level n
  count_before zero l = refl
  count_before (suc n) l =
      let f : flag new (entry_at t.entries n).lit.var ≡ flag seen (entry_at t.entries n).lit.var = flag_old n (omega (arith, at.0)) (omega arith) in
      rw (f, count_before n (omega arith)) refl

  count_after : (n : ℕ) → q0 < n → n ≤ length t.entries → open_below t.entries new t.level n ≡ open_below t.entries seen t.level n + (if (entry_at t.entries q0).level == t.level then 1 else 0)
  count_after zero l h = absurd (omega (arith, l))
  count_after (suc n) l h = elim (cases_eq n q0) [
    | inl same ↦
        let here : flag new (entry_at t.entries n).lit.var ≡ true = come n (omega arith) (ap (λ q. (entry_at t.entries q).lit) same ∙ at.1) in
        let was : flag seen (entry_at t.entries n).lit.var ≡ false = ap (flag seen) (ap (λ q. (entry_at t.entries q).lit.var) same ∙ x_var) ∙ fresh in
        rw (here, was, count_before n (omega arith), same) (bits ((entry_at t.entries q0).level == t.level) (open_below t.entries seen t.level q0))
    | inr other ↦
        let f : flag new (entry_at t.entries n).lit.var ≡ flag seen (entry_at t.entries n).lit.var = flag_old n (omega arith) other in
        rw (f, count_after n (omega arith) (omega arith)) (omega arith)
  ]
    where
      bits : (b : Bool) (n : ℕ) → (if b && true then 1 else 0) + n ≡ (if b && false then 1 else 0) + n + (if b then 1 else 0)
      bits true n = omega arith
      bits false n = omega arith

  owned : (v : ℕ) → 0 < v → flag new v ≡ true → (flag seen v ≡ true) ⊎ IsAssigned t.entries v
  owned v vpos e = elim (cases_eq v x.var) [
    | inl same ↦ inr (q0, at.0, x_var ∙ sym same)
    | inr other ↦ inl (sym (flag_other seen v x.var vpos pos other) ∙ e)
  ]

  still_lower : (m : Lit) → In m others → (q : ℕ) × IsAt t.entries q (opposite m) × (0 < (entry_at t.entries q).level) × ((entry_at t.entries q).level < t.level) × SeenAt t.entries new q
  still_lower m i = let f = gathers.lower m i in (f.0, f.1, f.2, f.3, stay f.0 f.1.0 f.4)

  -- a literal that isn't between is only marked
  mark_alone : (n : ℕ) → n ≤ 1 → (0 < (entry_at t.entries q0).level → (entry_at t.entries q0).level < t.level → ⊥) → (if (entry_at t.entries q0).level == t.level then 1 else 0) ≡ n → MarksOne t seen (slice_set seen (x.var - 1) true) others others x n
  mark_alone n few not_between counts = record {
    same_length = length-set seen (x.var - 1) true;
    few = few;
    from = from;
    stay = stay;
    come = come;
    owned = owned;
    gathers = record {
      lower = still_lower;
      gathered = λ q ql up low s. elim (from q ql s) [
        | inl old ↦ gathers.gathered q ql up low old
        | inr is ↦
            let place : q ≡ q0 = at_one t trail q q0 (opposite x) (ql, is) at in
            let levels : (entry_at t.entries q).level ≡ (entry_at t.entries q0).level = ap (λ n. (entry_at t.entries n).level) place in
            absurd (not_between (omega (arith, levels, up)) (omega (arith, levels, low)))
      ];
      once = gathers.once;
    };
    count = count_after (length t.entries) at.0 (omega arith) ∙ ap (λ k. open_below t.entries seen t.level (length t.entries) + k) counts;
  }

  pub mark_level : (entry_at t.entries q0).level ≡ t.level → MarksOne t seen (slice_set seen (x.var - 1) true) others others x 1
  mark_level level = mark_alone 1 (omega arith) (λ up low. omega (arith, low, level)) (rw (eq-eqb (entry_at t.entries q0).level t.level level) refl)

  pub mark_zero : (entry_at t.entries q0).level ≢ t.level → (entry_at t.entries q0).level ≡ 0 → MarksOne t seen (slice_set seen (x.var - 1) true) others others x 0
  mark_zero level zero_level = mark_alone 0 (omega arith) (λ up low. omega (arith, up, zero_level)) (rw (ne_eqb (entry_at t.entries q0).level t.level level) refl)

  pub mark_lower : (entry_at t.entries q0).level ≢ t.level → (entry_at t.entries q0).level ≢ 0 → MarksOne t seen (slice_set seen (x.var - 1) true) others (others ++ x ∷ []) x 0
  mark_lower level high = record {
    same_length = length-set seen (x.var - 1) true;
    few = omega arith;
    from = from;
    stay = stay;
    come = come;
    owned = owned;
    gathers = record {
      lower = λ m i. elim (in_split others x m i) [
        | inl old ↦ still_lower m old
        | inr is ↦ (q0, (at.0, at.1 ∙ ap opposite (sym is)), omega (arith, high), omega (arith, trail.below q0 at.0, level), come q0 at.0 at.1)
      ];
      gathered = λ q ql up low s. elim (from q ql s) [
        | inl old ↦ in_more others (x ∷ []) _ (gathers.gathered q ql up low old)
        | inr is ↦ subst (λ m. In m (others ++ x ∷ [])) (sym (ap opposite is ∙ opposite_twice x)) (in_last others x)
      ];
      once = once_push others x gathers.once (λ m i e.
          let f = gathers.lower m i in
          let place : f.0 ≡ q0 = one_place t trail f.0 q0 f.1.0 at.0 (ap (λ (l : Lit). l.var) f.1.1 ∙ e ∙ sym x_var) in
          let on : flag seen x.var ≡ true = ap (flag seen) (sym (ap (λ q. (entry_at t.entries q).lit.var) place ∙ x_var)) ∙ f.4 in
          (let no : true ≡ false = sym on ∙ fresh in cc));
    };
    count = count_after (length t.entries) at.0 (omega arith) ∙ rw (ne_eqb (entry_at t.entries q0).level t.level level) refl;
  }

pub mark_none : (t : TrailState) (seen : List Bool) (others : List Lit) (x : Lit) → Gathers t seen others → ((q : ℕ) → q < length t.entries → (entry_at t.entries q).lit ≡ opposite x → SeenAt t.entries seen q) → MarksOne t seen seen others others x 0
mark_none t seen others x gathers come = record {
  same_length = refl;
  few = omega arith;
  from = λ q ql s. inl s;
  stay = λ q ql s. s;
  come = come;
  owned = λ v vpos e. inl e;
  gathers = gathers;
  count = omega arith;
}

pub marks_push : (t : TrailState) (seen mid new : List Bool) (others more : List Lit) (c : Clause) (x : Lit) (n k : ℕ) → MarksAll t seen mid others c n → MarksOne t mid new others more x k → MarksAll t seen new more (c ++ x ∷ []) (n + k)
marks_push t seen mid new others more c x n k all one = record {
  same_length = one.same_length ∙ all.same_length;
  few = omega (arith, all.few, one.few, length-append c (x ∷ []));
  from = λ q ql s. elim (one.from q ql s) [
    | inl old ↦ elim (all.from q ql old) [ inl first ↦ inl first | inr w ↦ inr (w.0, in_more c (x ∷ []) w.0 w.1, w.2) ]
    | inr is ↦ inr (x, in_last c x, is)
  ];
  stay = λ q ql s. one.stay q ql (all.stay q ql s);
  come = λ q m ql i e. elim (in_split c x m i) [
    | inl old ↦ one.stay q ql (all.come q m ql old e)
    | inr is ↦ one.come q ql (e ∙ ap opposite is)
  ];
  owned = λ v vpos e. elim (one.owned v vpos e) [ inl old ↦ all.owned v vpos old | inr here ↦ inr here ];
  gathers = one.gathers;
  count = omega (arith, one.count, all.count);
}

-- no seen place, no count
pub none_open : (entries : List Entry) (seen : List Bool) (level n : ℕ) → ((q : ℕ) → q < n → (entry_at entries q).level ≡ level → SeenAt entries seen q → ⊥) → open_below entries seen level n ≡ 0
none_open entries seen level zero h = refl
none_open entries seen level (suc n) h = elim (cases_eq (entry_at entries n).level level) [
  | inl same ↦ elim (cases_Bool (flag seen (entry_at entries n).lit.var)) [
    | inl on ↦ absurd (h n (omega arith) same on)
    | inr off ↦ rw (off, none_open entries seen level n (λ q l. h q (omega arith))) (bits ((entry_at entries n).level == level))
  ]
  | inr other ↦ rw (ne_eqb (entry_at entries n).level level other, none_open entries seen level n (λ q l. h q (omega arith))) refl
]
  where
    bits : (b : Bool) → (if b && false then 1 else 0) + 0 ≡ 0
    bits true = refl
    bits false = refl

pub one_open : (entries : List Entry) (seen : List Bool) (level n r : ℕ) → r < n → (entry_at entries r).level ≡ level → SeenAt entries seen r → 1 ≤ open_below entries seen level n
one_open entries seen level zero r l e s = absurd (omega (arith, l))
one_open entries seen level (suc n) r l e s = elim (cases_eq r n) [
  | inl same ↦
      let f : flag seen (entry_at entries n).lit.var ≡ true = ap (λ q. flag seen (entry_at entries q).lit.var) (sym same) ∙ s in
      let g : (entry_at entries n).level ≡ level = ap (λ q. (entry_at entries q).level) (sym same) ∙ e in
      rw (f, eq-eqb (entry_at entries n).level level g) (omega arith)
  | inr other ↦ omega (arith, one_open entries seen level n r (omega arith) e s)
]

-- two seen places of the level, at least two
pub two_open : (entries : List Entry) (seen : List Bool) (level n r q : ℕ) → r < n → q < n → r ≢ q → (entry_at entries r).level ≡ level → (entry_at entries q).level ≡ level → SeenAt entries seen r → SeenAt entries seen q → 2 ≤ open_below entries seen level n
two_open entries seen level zero r q a b ne e f s t = absurd (omega (arith, a))
two_open entries seen level (suc n) r q a b ne e f s t = elim (cases_eq r n) [
  | inl same ↦
      let x : flag seen (entry_at entries n).lit.var ≡ true = ap (λ q. flag seen (entry_at entries q).lit.var) (sym same) ∙ s in
      let y : (entry_at entries n).level ≡ level = ap (λ q. (entry_at entries q).level) (sym same) ∙ e in
      let one = one_open entries seen level n q (omega (arith, b, ne, same)) f t in
      rw (x, eq-eqb (entry_at entries n).level level y) (omega (arith, one))
  | inr other ↦ elim (cases_eq q n) [
    | inl same ↦
        let x : flag seen (entry_at entries n).lit.var ≡ true = ap (λ q. flag seen (entry_at entries q).lit.var) (sym same) ∙ t in
        let y : (entry_at entries n).level ≡ level = ap (λ q. (entry_at entries q).level) (sym same) ∙ f in
        let one = one_open entries seen level n r (omega (arith, a, other)) e s in
        rw (x, eq-eqb (entry_at entries n).level level y) (omega (arith, one))
    | inr more ↦ omega (arith, two_open entries seen level n r q (omega (arith, a, other)) (omega (arith, b, more)) ne e f s t)
  ]
]

-- a seen place is taken back
module _ (t : TrailState) (trail : IsTrail t) (seen : List Bool) (fits : length seen ≡ t.variables) (r : ℕ) (rl : r < length t.entries) (here : SeenAt t.entries seen r) where
  abbrev pub less : List Bool
  less = slice_set seen ((entry_at t.entries r).lit.var - 1) false

  r_pos : 0 < (entry_at t.entries r).lit.var
  r_pos = (trail.within r rl).0

  pub less_other : (q : ℕ) → q < length t.entries → q ≢ r → flag less (entry_at t.entries q).lit.var ≡ flag seen (entry_at t.entries q).lit.var
  less_other q ql ne = get_or-set_other seen ((entry_at t.entries r).lit.var - 1) ((entry_at t.entries q).lit.var - 1) false false (λ e. ne (one_place t trail q r ql rl (omega (arith, e, r_pos, (trail.within q ql).0))))

  pub less_here : flag less (entry_at t.entries r).lit.var ≡ false
  less_here = get_or-set_same seen ((entry_at t.entries r).lit.var - 1) false false (omega (arith, fits, r_pos, (trail.within r rl).1))

  less_before : (n : ℕ) → n ≤ r → open_below t.entries less t.level n ≡ open_below t.entries seen t.level n
  less_before zero l = refl
  less_before (suc n) l = rw (less_other n (omega arith) (omega arith), less_before n (omega arith)) refl

  pub less_var : (v : ℕ) → 0 < v → flag less v ≡ true → flag seen v ≡ true
  less_var v vpos e = elim (cases_eq v (entry_at t.entries r).lit.var) [
    | inl same ↦ absurd (let no : true ≡ false = sym e ∙ ap (flag less) same ∙ less_here in cc)
    | inr other ↦ sym (get_or-set_other seen ((entry_at t.entries r).lit.var - 1) (v - 1) false false (omega (arith, other, r_pos, vpos))) ∙ e
  ]

  pub less_count : (entry_at t.entries r).level ≡ t.level → (n : ℕ) → r < n → n ≤ length t.entries → open_below t.entries less t.level n + 1 ≡ open_below t.entries seen t.level n
  less_count level zero l h = absurd (omega (arith, l))
  less_count level (suc n) l h = elim (cases_eq n r) [
    | inl same ↦
        let off : flag less (entry_at t.entries n).lit.var ≡ false = ap (λ q. flag less (entry_at t.entries q).lit.var) same ∙ less_here in
        let on : flag seen (entry_at t.entries n).lit.var ≡ true = ap (λ q. flag seen (entry_at t.entries q).lit.var) same ∙ here in
        let lev : (entry_at t.entries n).level ≡ t.level = ap (λ q. (entry_at t.entries q).level) same ∙ level in
        rw (off, on, eq-eqb (entry_at t.entries n).level t.level lev, less_before n (omega arith)) (omega arith)
    | inr other ↦ rw (less_other n (omega arith) other) (omega (arith, less_count level n (omega arith) (omega arith)))
  ]

  pub less_gathers : (others : List Lit) → ((0 < (entry_at t.entries r).level) → (entry_at t.entries r).level < t.level → ⊥) → Gathers t seen others → Gathers t less others
  less_gathers others not_between g = record {
    lower = λ m i.
        let f = g.lower m i in
        let ne : f.0 ≢ r = λ e. not_between (omega (arith, f.2, ap (λ n. (entry_at t.entries n).level) e)) (omega (arith, f.3, ap (λ n. (entry_at t.entries n).level) e)) in
        (f.0, f.1, f.2, f.3, less_other f.0 f.1.0 ne ∙ f.4);
    gathered = λ q ql up low s. elim (cases_eq q r) [
      | inl same ↦ absurd (not_between (omega (arith, up, ap (λ n. (entry_at t.entries n).level) same)) (omega (arith, low, ap (λ n. (entry_at t.entries n).level) same)))
      | inr other ↦ g.gathered q ql up low (sym (less_other q ql other) ∙ s)
    ];
    once = g.once;
  }

pub open_le : (entries : List Entry) (seen : List Bool) (level n : ℕ) → open_below entries seen level n ≤ n
open_le entries seen level zero = omega arith
open_le entries seen level (suc n) = bits (((entry_at entries n).level == level) && flag seen (entry_at entries n).lit.var) (open_le entries seen level n)
  where
    bits : (b : Bool) → open_below entries seen level n ≤ n → (if b then 1 else 0) + open_below entries seen level n ≤ suc n
    bits true h = omega (arith, h)
    bits false h = omega (arith, h)
