-- What a kept trail says, and one more literal.
use Rattle.std.proofs.Common.{◌≡◌, ◌≢◌, ℕ, zero, suc, ◌+◌, ◌-◌, ◌<◌, ◌≤◌, List, [], ◌∷◌, ◌++◌, length, sum_by, Option, None, slice_index_or, slice_set, refl, sym, ap, ◌∙◌, subst, inl, inr, arith, length-append, length-set, get_or-set_other, get_or-set_same}
use Rattle.std.proofs.lemmas.List.{length-map}
use Rattle.std.proofs.lemmas.List.Sums.{sum_by-set, get_or-le-sum_by}
use Rattle.std.proofs.lemmas.Bool.{cases_eq}
use Rattle.clause_arena.specs.Clauses.{Lit, opposite, In}
use Rattle.sat_trail.specs.Trails.{Entry, TrailState, true_lits, entry_at, IsUnassigned, IsTrail, lit_at}
use Rattle.sat_trail.proofs.LitLemmas.{opposite_twice, same_var, code_var, code_other, code_fits}
use Rattle.clause_arena.specs.Lits.{code_of}
use Rattle.sat_trail.specs.declared.info.Info.{Info}
use Rattle.sat_trail.specs.declared.value.Value.{Value}
use Rattle.sat_trail.specs.declared.value.Value.TheVariants.{Open, True, False}
use Rattle.sat_trail.specs.Kept.{IsKept, info_of, no_info, entry_of, entries_of, value_at, one_if_open}

pub true_is : (lits : List Lit) (infos : List Info) → true_lits (entries_of lits infos) ≡ lits
true_is [] infos = refl
true_is (l ∷ lits) infos = ap (λ t. l ∷ t) (true_is lits infos)

pub place_of : (l : Lit) (lits : List Lit) → In l lits → (p : ℕ) × (p < length lits) × (lit_at lits p ≡ l)
place_of l [] i = absurd i
place_of l (m ∷ lits) (inl same) = (0, omega arith, sym same)
place_of l (m ∷ lits) (inr i) = let r = place_of l lits i in (suc r.0, omega (arith, r.1), r.2)

pub in_at : (lits : List Lit) (p : ℕ) → p < length lits → In (lit_at lits p) lits
in_at [] p l = absurd (omega (arith, l))
in_at (m ∷ lits) zero l = inl refl
in_at (m ∷ lits) (suc p) l = inr (in_at lits p (omega (arith, l)))

pub in_last : (lits : List Lit) (l : Lit) → In l (lits ++ l ∷ [])
in_last [] l = inl refl
in_last (m ∷ lits) l = inr (in_last lits l)

pub in_more : (lits more : List Lit) (l : Lit) → In l lits → In l (lits ++ more)
in_more [] more l i = absurd i
in_more (m ∷ lits) more l (inl same) = inl same
in_more (m ∷ lits) more l (inr i) = inr (in_more lits more l i)

pub lit_before : (lits : List Lit) (l : Lit) (p : ℕ) → p < length lits → lit_at (lits ++ l ∷ []) p ≡ lit_at lits p
lit_before [] l p h = absurd (omega (arith, h))
lit_before (m ∷ lits) l zero h = refl
lit_before (m ∷ lits) l (suc p) h = lit_before lits l p (omega (arith, h))

pub lit_last : (lits : List Lit) (l : Lit) (p : ℕ) → p ≡ length lits → lit_at (lits ++ l ∷ []) p ≡ l
lit_last [] l zero e = refl
lit_last [] l (suc p) e = absurd (omega (arith, e))
lit_last (m ∷ lits) l zero e = absurd (omega (arith, e))
lit_last (m ∷ lits) l (suc p) e = lit_last lits l p (omega (arith, e))

pub start_before : (xs : List ℕ) (y p : ℕ) → p < length xs → slice_index_or (xs ++ y ∷ []) p 0 ≡ slice_index_or xs p 0
start_before [] y p h = absurd (omega (arith, h))
start_before (x ∷ xs) y zero h = refl
start_before (x ∷ xs) y (suc p) h = start_before xs y p (omega (arith, h))

start_last : (xs : List ℕ) (y p : ℕ) → p ≡ length xs → slice_index_or (xs ++ y ∷ []) p 0 ≡ y
start_last [] y zero e = refl
start_last [] y (suc p) e = absurd (omega (arith, e))
start_last (x ∷ xs) y zero e = absurd (omega (arith, e))
start_last (x ∷ xs) y (suc p) e = start_last xs y p (omega (arith, e))

info_other : (infos : List Info) (v w : ℕ) (i : Info) → 0 < v → 0 < w → v ≢ w → info_of (slice_set infos (w - 1) i) v ≡ info_of infos v
info_other infos v w i a b ne = get_or-set_other infos (w - 1) (v - 1) i no_info (omega (arith, ne))

abbrev pub SignsAt : List Value → List Info → Lit → Type 0
SignsAt values infos m = (0 < m.var) × (m.var ≤ length infos) × (value_at values m ≡ True) × (value_at values (opposite m) ≡ False)

entries_push : (lits : List Lit) (l : Lit) (infos : List Info) (i : Info) → 0 < l.var → l.var ≤ length infos → ((m : Lit) → In m lits → (0 < m.var) × (m.var ≢ l.var)) →
    entries_of (lits ++ l ∷ []) (slice_set infos (l.var - 1) i) ≡ entries_of lits infos ++ (record { lit = l; level = i.level; reason = i.reason }) ∷ []
entries_push [] l infos i pos fits others =
    let here : info_of (slice_set infos (l.var - 1) i) l.var ≡ i = get_or-set_same infos (l.var - 1) i no_info (omega (arith, pos, fits)) in
    rw here refl
entries_push (m ∷ lits) l infos i pos fits others =
    let o = others m (inl refl) in
    let here : info_of (slice_set infos (l.var - 1) i) m.var ≡ info_of infos m.var = info_other infos m.var l.var i o.0 pos o.1 in
    rw (here, entries_push lits l infos i pos fits (λ n j. others n (inr j))) refl

module _ (lits : List Lit) (values : List Value) (infos : List Info) (starts : List ℕ) (given room_lits room_starts : ℕ) (kept : IsKept lits values infos starts given room_lits room_starts) where
  true_value : (l : Lit) → In l lits → value_at values l ≡ True
  true_value l i =
      let r = place_of l lits i in
      let at : value_at values (lit_at lits r.0) ≡ True = (kept.signs r.0 r.1).2 in
      ap (value_at values) (sym r.2) ∙ at

  false_value : (l : Lit) → In (opposite l) lits → value_at values l ≡ False
  false_value l i =
      let r = place_of (opposite l) lits i in
      let at : value_at values (opposite (lit_at lits r.0)) ≡ False = (kept.signs r.0 r.1).3 in
      ap (value_at values) (sym (ap opposite r.2 ∙ opposite_twice l)) ∙ at

  pub not_true : (l : Lit) → (value_at values l ≡ True → ⊥) → In l (true_lits (entries_of lits infos)) → ⊥
  not_true l ne i = ne (true_value l (subst (λ q. In l q) (true_is lits infos) i))

  pub not_false : (l : Lit) → (value_at values l ≡ False → ⊥) → In (opposite l) (true_lits (entries_of lits infos)) → ⊥
  not_false l ne i = ne (false_value l (subst (λ q. In (opposite l) q) (true_is lits infos) i))

  pub unassigned_by : (l : Lit) → value_at values l ≡ Open → IsUnassigned (entries_of lits infos) l
  unassigned_by l e = (not_true l (λ t. let h : Open ≡ True = sym e ∙ t in cc), not_false l (λ t. let h : Open ≡ False = sym e ∙ t in cc))

  pub true_by : (l : Lit) → 0 < l.var → l.var ≤ length infos → value_at values l ≡ True → In l (true_lits (entries_of lits infos))
  true_by l pos fits e = rw (true_is lits infos) (kept.backed_true l pos fits e)

  pub false_by : (l : Lit) → 0 < l.var → l.var ≤ length infos → value_at values l ≡ False → In (opposite l) (true_lits (entries_of lits infos))
  false_by l pos fits e = rw (true_is lits infos) (kept.backed_false l pos fits e)

  old_var : (l : Lit) → IsUnassigned (entries_of lits infos) l → (p : ℕ) → p < length lits → (lit_at lits p).var ≢ l.var
  old_var l u p h e = elim (same_var (lit_at lits p) l e) [
    | inl same ↦ u.0 (rw (true_is lits infos) (subst (λ q. In q lits) same (in_at lits p h)))
    | inr other ↦ u.1 (rw (true_is lits infos) (subst (λ q. In q lits) other (in_at lits p h)))
  ]

  not_among : (l : Lit) → IsUnassigned (entries_of lits infos) l → (m : Lit) → In m lits → (0 < m.var) × (m.var ≢ l.var)
  not_among l u m i =
      let r = place_of m lits i in
      (rw (← r.2) (kept.signs r.0 r.1).0, λ e. old_var l u r.0 r.1 (ap (λ q. q.var) r.2 ∙ e))

  -- an unassigned literal has no value
  none_by : (l : Lit) → IsUnassigned (entries_of lits infos) l → 0 < l.var → l.var ≤ length infos → value_at values l ≡ Open
  none_by l u pos fits = of_value (value_at values l) refl
    where
      of_value : (o : Value) → value_at values l ≡ o → value_at values l ≡ Open
      of_value Open e = e
      of_value True e = absurd (u.0 (true_by l pos fits e))
      of_value False e = absurd (u.1 (false_by l pos fits e))

  opposite_unassigned : (l : Lit) → IsUnassigned (entries_of lits infos) l → IsUnassigned (entries_of lits infos) (opposite l)
  opposite_unassigned l u = (u.1, λ i. u.0 (subst (λ q. In q (true_lits (entries_of lits infos))) (opposite_twice l) i))

  -- and then there is room for it
  pub room_for : (l : Lit) → IsUnassigned (entries_of lits infos) l → 0 < l.var → l.var ≤ length infos → length lits < length infos
  room_for l u pos fits =
      let none = none_by l u pos fits in
      let lt : code_of l < length values = omega (arith, code_fits l (length infos) fits, kept.same) in
      omega (arith, kept.count, get_or-le-sum_by one_if_open values (code_of l) Open lt, ap one_if_open none)

  abbrev pub set_values : (l : Lit) → List Value
  set_values l = slice_set (slice_set values (code_of l) True) (code_of (opposite l)) False

  pub entries_assign : (l : Lit) (reason : Option ℕ) → IsUnassigned (entries_of lits infos) l → 0 < l.var → l.var ≤ length infos →
      entries_of (lits ++ l ∷ []) (slice_set infos (l.var - 1) (record { level = length starts; reason = reason })) ≡ entries_of lits infos ++ (record { lit = l; level = length starts; reason = reason }) ∷ []
  entries_assign l reason u pos fits = entries_push lits l infos (record { level = length starts; reason = reason }) pos fits (not_among l u)

  -- the starts of the levels once a literal of this level comes last
  pub record IsOpening (level : ℕ) (starts2 : List ℕ) : Type 0 where
    pub top : level ≡ length starts2
    pub grown : length starts ≤ length starts2
    pub few : length starts2 ≤ length lits + 1
    pub cuts : (k : ℕ) → k < length starts2 → slice_index_or starts2 k 0 ≤ length lits
    pub low : (k p : ℕ) → k < length starts2 → p < slice_index_or starts2 k 0 → p < length lits → (info_of infos (lit_at lits p).var).level ≤ k
    pub high : (k p : ℕ) → k < length starts2 → slice_index_or starts2 k 0 ≤ p → p < length lits → k < (info_of infos (lit_at lits p).var).level
    pub rising : (k : ℕ) → k < length starts2 → k ≤ slice_index_or starts2 k 0

  kept_push : (l : Lit) (new_info : Info) (starts2 : List ℕ) → IsOpening new_info.level starts2 → IsUnassigned (entries_of lits infos) l → 0 < l.var → l.var ≤ length infos →
      IsKept (lits ++ l ∷ []) (set_values l) (slice_set infos (l.var - 1) new_info) starts2 given room_lits room_starts
  kept_push l new_info starts2 opening u pos fits = record {
    same = omega (arith, kept.same, length-set infos (l.var - 1) new_info, lengths);
    few = omega (arith, kept.few, length-set infos (l.var - 1) new_info);
    count = omega (arith, kept.count, sums, length-append lits (l ∷ []), length-set infos (l.var - 1) new_info);
    signs = λ p h. by_place (λ q. SignsAt values2 infos2 (lit_at more q)) (λ q lt. rw (lit_before lits l q lt) (old_signs q lt)) (rw (lit_last lits l (length lits) refl) (pos, omega (arith, fits, length-set infos (l.var - 1) new_info), true_here, false_here)) p h;
    backed_true = new_true;
    backed_false = new_false;
    distinct = λ p q lt h. elim (cases_eq q (length lits)) [
      | inl same ↦ let pl : p < length lits = omega (arith, lt, same) in rw (lit_last lits l q same, lit_before lits l p pl) (old_var l u p pl)
      | inr other ↦ let ql : q < length lits = omega (arith, h, other, length-append lits (l ∷ [])) in let pl : p < length lits = omega (arith, lt, ql) in rw (lit_before lits l q ql, lit_before lits l p pl) (kept.distinct p q lt ql)
    ];
    below = λ p h. by_place (λ q. (info_of infos2 (lit_at more q).var).level ≤ length starts2) (λ q lt. rw (lit_before lits l q lt, info_old q lt) (omega (arith, kept.below q lt, opening.grown))) (rw (lit_last lits l (length lits) refl, info_here) (omega (arith, opening.top))) p h;
    cuts = λ k h. omega (arith, opening.cuts k h, length-append lits (l ∷ []));
    cut_low = λ k p h lt. let pl : p < length lits = omega (arith, opening.cuts k h, lt) in rw (lit_before lits l p pl, info_old p pl) (opening.low k p h lt pl);
    cut_high = λ k p h le pl. elim (cases_eq p (length lits)) [
      | inl same ↦ rw (lit_last lits l p same, info_here) (omega (arith, h, opening.top))
      | inr other ↦ let ql : p < length lits = omega (arith, pl, other, length-append lits (l ∷ [])) in rw (lit_before lits l p ql, info_old p ql) (opening.high k p h le ql)
    ];
    levels = omega (arith, opening.few, length-append lits (l ∷ []));
    rising = opening.rising;
    given_in = omega (arith, kept.given_in, length-append lits (l ∷ []));
    room_of_lits = omega (arith, kept.room_of_lits, length-set infos (l.var - 1) new_info);
    room_of_starts = omega (arith, kept.room_of_starts, length-set infos (l.var - 1) new_info);
  }
    where
      more : List Lit
      more = lits ++ l ∷ []

      values2 : List Value
      values2 = set_values l

      infos2 : List Info
      infos2 = slice_set infos (l.var - 1) new_info

      by_place : (P : ℕ → Type 0) → ((q : ℕ) → q < length lits → P q) → P (length lits) → (p : ℕ) → p < length more → P p
      by_place P each last p h = elim (cases_eq p (length lits)) [
        | inl same ↦ subst P (sym same) last
        | inr other ↦ each p (omega (arith, h, other, length-append lits (l ∷ [])))
      ]

      lengths : length values2 ≡ length values
      lengths = length-set (slice_set values (code_of l) True) (code_of (opposite l)) False ∙ length-set values (code_of l) True

      here_lt : code_of l < length values
      here_lt = omega (arith, code_fits l (length infos) fits, kept.same)

      there_lt : code_of (opposite l) < length values
      there_lt = omega (arith, code_fits (opposite l) (length infos) fits, kept.same)

      true_here : value_at values2 l ≡ True
      true_here = get_or-set_other (slice_set values (code_of l) True) (code_of (opposite l)) (code_of l) False Open (code_other l) ∙ get_or-set_same values (code_of l) True Open here_lt

      false_here : value_at values2 (opposite l) ≡ False
      false_here = get_or-set_same (slice_set values (code_of l) True) (code_of (opposite l)) False Open (omega (arith, there_lt, length-set values (code_of l) True))

      value_old : (m : Lit) → m.var ≢ l.var → value_at values2 m ≡ value_at values m
      value_old m ne = get_or-set_other (slice_set values (code_of l) True) (code_of (opposite l)) (code_of m) False Open (λ e. ne (code_var m (opposite l) e)) ∙ get_or-set_other values (code_of l) (code_of m) True Open (λ e. ne (code_var m l e))

      sums : sum_by one_if_open values2 + 2 ≡ sum_by one_if_open values
      sums =
          let none = none_by l u pos fits in
          let none2 : value_at values (opposite l) ≡ Open = none_by (opposite l) (opposite_unassigned l u) pos fits in
          let between : slice_index_or (slice_set values (code_of l) True) (code_of (opposite l)) Open ≡ Open = get_or-set_other values (code_of l) (code_of (opposite l)) True Open (λ e. code_other l (sym e)) ∙ none2 in
          omega (arith, sum_by-set one_if_open values (code_of l) True Open here_lt, sum_by-set one_if_open (slice_set values (code_of l) True) (code_of (opposite l)) False Open (omega (arith, there_lt, length-set values (code_of l) True)), ap one_if_open none, ap one_if_open between)

      info_here : info_of infos2 l.var ≡ new_info
      info_here = get_or-set_same infos (l.var - 1) new_info no_info (omega (arith, pos, fits))

      info_old : (q : ℕ) → q < length lits → info_of infos2 (lit_at lits q).var ≡ info_of infos (lit_at lits q).var
      info_old q lt = info_other infos (lit_at lits q).var l.var new_info (kept.signs q lt).0 pos (old_var l u q lt)

      old_signs : (q : ℕ) → q < length lits → SignsAt values2 infos2 (lit_at lits q)
      old_signs q lt =
          let s = kept.signs q lt in
          (s.0, omega (arith, s.1, length-set infos (l.var - 1) new_info), value_old (lit_at lits q) (old_var l u q lt) ∙ s.2, value_old (opposite (lit_at lits q)) (old_var l u q lt) ∙ s.3)

      old_fits : (m : Lit) → m.var ≤ length infos2 → m.var ≤ length infos
      old_fits m h = omega (arith, h, length-set infos (l.var - 1) new_info)

      new_true : (m : Lit) → 0 < m.var → m.var ≤ length infos2 → value_at values2 m ≡ True → In m more
      new_true m vpos vfits e = elim (cases_eq m.var l.var) [
        | inl same ↦ elim (same_var m l same) [
          | inl is ↦ subst (λ q. In q more) (sym is) (in_last lits l)
          | inr other ↦ let no : True ≡ False = sym e ∙ ap (value_at values2) other ∙ false_here in cc
        ]
        | inr ne ↦ in_more lits (l ∷ []) m (kept.backed_true m vpos (old_fits m vfits) (sym (value_old m ne) ∙ e))
      ]

      new_false : (m : Lit) → 0 < m.var → m.var ≤ length infos2 → value_at values2 m ≡ False → In (opposite m) more
      new_false m vpos vfits e = elim (cases_eq m.var l.var) [
        | inl same ↦ elim (same_var m l same) [
          | inl is ↦ let no : True ≡ False = sym true_here ∙ sym (ap (value_at values2) is) ∙ e in cc
          | inr other ↦ subst (λ q. In q more) (sym (ap opposite other ∙ opposite_twice l)) (in_last lits l)
        ]
        | inr ne ↦ in_more lits (l ∷ []) (opposite m) (kept.backed_false m vpos (old_fits m vfits) (sym (value_old m ne) ∙ e))
      ]

  pub kept_assign : (l : Lit) (reason : Option ℕ) → IsUnassigned (entries_of lits infos) l → 0 < l.var → l.var ≤ length infos →
      IsKept (lits ++ l ∷ []) (set_values l) (slice_set infos (l.var - 1) (record { level = length starts; reason = reason })) starts given room_lits room_starts
  kept_assign l reason u pos fits = kept_push l (record { level = length starts; reason = reason }) starts same_level u pos fits
    where
      same_level : IsOpening (length starts) starts
      same_level = record {
        top = refl;
        grown = omega arith;
        few = omega (arith, kept.levels);
        cuts = kept.cuts;
        low = λ k p h lt pl. kept.cut_low k p h lt;
        high = kept.cut_high;
        rising = kept.rising;
      }

  pub entries_decide : (l : Lit) → IsUnassigned (entries_of lits infos) l → 0 < l.var → l.var ≤ length infos →
      entries_of (lits ++ l ∷ []) (slice_set infos (l.var - 1) (record { level = suc (length starts); reason = None })) ≡ entries_of lits infos ++ (record { lit = l; level = suc (length starts); reason = None }) ∷ []
  entries_decide l u pos fits = entries_push lits l infos (record { level = suc (length starts); reason = None }) pos fits (not_among l u)

  pub kept_decide : (l : Lit) → IsUnassigned (entries_of lits infos) l → 0 < l.var → l.var ≤ length infos →
      IsKept (lits ++ l ∷ []) (set_values l) (slice_set infos (l.var - 1) (record { level = suc (length starts); reason = None })) (starts ++ length lits ∷ []) given room_lits room_starts
  kept_decide l u pos fits = kept_push l (record { level = suc (length starts); reason = None }) starts2 next_level u pos fits
    where
      starts2 : List ℕ
      starts2 = starts ++ length lits ∷ []

      size : length starts2 ≡ suc (length starts)
      size = omega (arith, length-append starts (length lits ∷ []))

      by_level : (P : ℕ → ℕ → Type 0) → ((k : ℕ) → k < length starts → P k (slice_index_or starts k 0)) → P (length starts) (length lits) → (k : ℕ) → k < length starts2 → P k (slice_index_or starts2 k 0)
      by_level P each last k h = elim (cases_eq k (length starts)) [
        | inl same ↦ rw (start_last starts (length lits) k same, same) last
        | inr other ↦ let kl : k < length starts = omega (arith, h, other, size) in rw (start_before starts (length lits) k kl) (each k kl)
      ]

      next_level : IsOpening (suc (length starts)) starts2
      next_level = record {
        top = sym size;
        grown = omega (arith, size);
        few = omega (arith, kept.levels, size);
        cuts = by_level (λ k start. start ≤ length lits) kept.cuts (omega arith);
        low = λ k p h. by_level (λ k start. p < start → p < length lits → (info_of infos (lit_at lits p).var).level ≤ k) (λ k kl lt pl. kept.cut_low k p kl lt) (λ lt pl. kept.below p pl) k h;
        high = λ k p h. by_level (λ k start. start ≤ p → p < length lits → k < (info_of infos (lit_at lits p).var).level) (λ k kl le pl. kept.cut_high k p kl le pl) (λ le pl. absurd (omega (arith, le, pl))) k h;
        rising = by_level (λ k start. k ≤ start) kept.rising kept.levels;
      }

  pub entry_is : (p : ℕ) → p < length lits → entry_at (entries_of lits infos) p ≡ entry_of infos (lit_at lits p)
  entry_is p h = at lits p h
    where
      at : (ls : List Lit) (p : ℕ) → p < length ls → entry_at (entries_of ls infos) p ≡ entry_of infos (lit_at ls p)
      at [] p h = absurd (omega (arith, h))
      at (m ∷ ls) zero h = refl
      at (m ∷ ls) (suc p) h = at ls p (omega (arith, h))

  pub trail_by : IsTrail (record { entries = entries_of lits infos; level = length starts; given = given; variables = length infos })
  trail_by = record {
    distinct = λ p q lt h. let ql : q < length lits = omega (arith, h, length-map lits (entry_of infos)) in let pl : p < length lits = omega (arith, lt, ql) in rw (entry_is p pl, entry_is q ql) (kept.distinct p q lt ql);
    within = λ p h. let pl : p < length lits = omega (arith, h, length-map lits (entry_of infos)) in rw (entry_is p pl) ((kept.signs p pl).0, (kept.signs p pl).1);
    below = λ p h. let pl : p < length lits = omega (arith, h, length-map lits (entry_of infos)) in rw (entry_is p pl) (kept.below p pl);
    given_in = omega (arith, kept.given_in, length-map lits (entry_of infos));
    few = omega (arith, kept.count, length-map lits (entry_of infos));
  }

pub state_same : (s t : TrailState) → s.entries ≡ t.entries → s.level ≡ t.level → s.given ≡ t.given → s.variables ≡ t.variables → s ≡ t
state_same s t e l g v =
    ap (λ q. record { entries = q; level = s.level; given = s.given; variables = s.variables }) e
    ∙ ap (λ q. record { entries = t.entries; level = q; given = s.given; variables = s.variables }) l
    ∙ ap (λ q. record { entries = t.entries; level = t.level; given = q; variables = s.variables }) g
    ∙ ap (λ q. record { entries = t.entries; level = t.level; given = t.given; variables = q }) v

module _ (lits : List Lit) (values : List Value) (infos : List Info) (starts : List ℕ) (given room_lits room_starts : ℕ) (kept : IsKept lits values infos starts given room_lits room_starts) where
  -- what is kept of a variable is that of its entry
  pub info_read : (q var : ℕ) → q < length (entries_of lits infos) → (entry_at (entries_of lits infos) q).lit.var ≡ var →
      ((info_of infos var).level ≡ (entry_at (entries_of lits infos) q).level) × ((info_of infos var).reason ≡ (entry_at (entries_of lits infos) q).reason) × (0 < var) × (var ≤ length infos)
  info_read q var h e =
      let ql : q < length lits = omega (arith, h, length-map lits (entry_of infos)) in
      let is = entry_is lits values infos starts given room_lits room_starts kept q ql in
      let v : (lit_at lits q).var ≡ var = sym (ap (λ (n : Entry). n.lit.var) is) ∙ e in
      let s = kept.signs q ql in
      (ap (λ w. (info_of infos w).level) (sym v) ∙ sym (ap (λ (n : Entry). n.level) is), ap (λ w. (info_of infos w).reason) (sym v) ∙ sym (ap (λ (n : Entry). n.reason) is), omega (arith, s.0, v), omega (arith, s.1, v))

pub kept_given : (lits : List Lit) (values : List Value) (infos : List Info) (starts : List ℕ) (given n room_lits room_starts : ℕ) → IsKept lits values infos starts given room_lits room_starts → n ≤ length lits → IsKept lits values infos starts n room_lits room_starts
kept_given lits values infos starts given n room_lits room_starts kept h = record {
  same = kept.same;
  few = kept.few;
  count = kept.count;
  signs = kept.signs;
  backed_true = kept.backed_true;
  backed_false = kept.backed_false;
  distinct = kept.distinct;
  below = kept.below;
  cuts = kept.cuts;
  cut_low = kept.cut_low;
  cut_high = kept.cut_high;
  levels = kept.levels;
  rising = kept.rising;
  given_in = h;
  room_of_lits = kept.room_of_lits;
  room_of_starts = kept.room_of_starts;
}
