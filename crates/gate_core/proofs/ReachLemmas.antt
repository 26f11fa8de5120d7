-- What a step of the search does to the scenarios that are reached.
use Rattle.std.proofs.Common.{◌≡◌, ◌≢◌, ℕ, ◌+◌, ◌<◌, ◌≤◌, Bool, true, false, IsTrue, List, [], length, get_or, sym, ap, ◌∙◌, subst, inl, inr, arith}
use Rattle.std.proofs.lemmas.Bool.{cases_eq, both_ways}
use Rattle.std.proofs.lemmas.List.{get_or-set_same, get_or-set_other}
use Rattle.std.proofs.Math.ListN.{length-set, set}
use Rattle.gate_core.specs.Matching.{IsMatching, IsMatchingBut, IsOwner, IsOwned, IsReach, IsTried, Grows, IsHallViolator, list_at, is_in}
use Rattle.std.specs.List.{sum_by}
use Rattle.std.proofs.Common.{replicate}
use Rattle.std.proofs.lemmas.List.{get_or-replicate, length-replicate}
use Rattle.std.proofs.lemmas.List.Sums.{sum_by-set}
use Rattle.gate_core.specs.Matching.{weight}
use Rattle.gate_core.proofs.HallLemmas.{no_matching}

module _ (may_have : ℕ → ℕ → Type 0) (top n hole : ℕ) (words : List ℕ) (lists : List (List ℕ)) (reached : List Bool)
    (small : n ≤ 64) (reach : IsReach may_have top n hole words lists reached) (m : IsMatchingBut may_have top n hole words)
    (i word : ℕ) (l : i < n) (here : IsTrue (is_in reached i)) (below : word < top) (may : may_have i word) where
  -- the words of i's list, with this one at i
  with_word : List ℕ
  with_word = set (list_at lists i) i word

  at_i : get_or with_word i 0 ≡ word
  unfolding with_word
  at_i = get_or-set_same (list_at lists i) i word 0 (omega (arith, reach.sizes i l here))

  at_other : (j : ℕ) → j ≢ i → get_or with_word j 0 ≡ get_or (list_at lists i) j 0
  unfolding with_word
  at_other j other = get_or-set_other (list_at lists i) i j word 0 other

  -- no one has the word: all have words now
  pub found : ((o : ℕ) → IsOwner n hole words word o → ⊥) → IsMatching may_have top n (set (list_at lists i) i word)
  unfolding with_word
  found free = record {
    within = λ j k. elim (cases_eq j i) [
      | inl same ↦ subst (λ x. get_or with_word x 0 < top) (sym same) (subst (λ x. x < top) (sym at_i) below)
      | inr other ↦ subst (λ x. x < top) (sym (at_other j other)) ((reach.matched i l here).within j k other)
    ];
    had = λ j k. elim (cases_eq j i) [
      | inl same ↦ subst (λ x. may_have x (get_or with_word x 0)) (sym same) (subst (may_have i) (sym at_i) may)
      | inr other ↦ subst (may_have j) (sym (at_other j other)) ((reach.matched i l here).had j k other)
    ];
    apart = λ j k p q e. elim (cases_eq j i) [
      | inl same ↦ elim (cases_eq k i) [
        | inl same_too ↦ same ∙ sym same_too
        | inr other ↦ absurd (taken k q other (sym (at_other k other) ∙ sym e ∙ ap (λ x. get_or with_word x 0) same ∙ at_i))
      ]
      | inr other ↦ elim (cases_eq k i) [
        | inl same ↦ absurd (taken j p other (sym (at_other j other) ∙ e ∙ ap (λ x. get_or with_word x 0) same ∙ at_i))
        | inr other_too ↦ (reach.matched i l here).apart j k p q other other_too (sym (at_other j other) ∙ e ∙ at_other k other_too)
      ]
    ];
  }
    where
      taken : (j : ℕ) → j < n → j ≢ i → get_or (list_at lists i) j 0 ≡ word → ⊥
      taken j p other e = let s = reach.owned i j l here p other in free s.0 (record { within = s.1.within; other = s.1.other; has = s.1.has ∙ e })

  -- scenario o has the word and was not reached: it is the one without a word now
  module _ (o : ℕ) (owner : IsOwner n hole words word o) (fresh : is_in reached o ≡ false) where
    abbrev pub lists_after : List (List ℕ)
    lists_after = set lists o (set (list_at lists i) i word)

    abbrev pub reached_after : List Bool
    reached_after = set reached o true

    not_i : o ≢ i
    not_i e = both_ways _ fresh (subst (λ x. is_in reached x ≡ true) (sym e) here)

    mark_at_o : is_in reached_after o ≡ true
    mark_at_o = get_or-set_same reached o true false (omega (arith, owner.within, reach.mark_count))

    mark_other : (j : ℕ) → j ≢ o → is_in reached_after j ≡ is_in reached j
    mark_other j other = get_or-set_other reached o j true false other

    list_at_o : list_at lists_after o ≡ with_word
    unfolding with_word
    list_at_o = get_or-set_same lists o (set (list_at lists i) i word) [] (omega (arith, owner.within, reach.list_count))

    list_other : (j : ℕ) → j ≢ o → list_at lists_after j ≡ list_at lists j
    list_other j other = get_or-set_other lists o j (set (list_at lists i) i word) [] other

    pub grows : Grows reached reached_after
    grows j t = elim (cases_eq j o) [
      | inl same ↦ subst (λ x. is_in reached_after x ≡ true) (sym same) mark_at_o
      | inr other ↦ mark_other j other ∙ t
    ]

    -- in i's list o has the word, as at first
    has_it : get_or (list_at lists i) o 0 ≡ word
    has_it = reach.kept i o l here owner.within fresh ∙ owner.has

    -- no other has it there
    alone : (j : ℕ) → j < n → j ≢ i → get_or (list_at lists i) j 0 ≡ word → j ≡ o
    alone j p other e = (reach.matched i l here).apart j o p owner.within other not_i (e ∙ sym has_it)

    but_o : IsMatchingBut may_have top n o with_word
    but_o = record {
      hole_within = owner.within;
      within = λ j k _. elim (cases_eq j i) [
        | inl same ↦ subst (λ x. get_or with_word x 0 < top) (sym same) (subst (λ x. x < top) (sym at_i) below)
        | inr other ↦ subst (λ x. x < top) (sym (at_other j other)) ((reach.matched i l here).within j k other)
      ];
      had = λ j k _. elim (cases_eq j i) [
        | inl same ↦ subst (λ x. may_have x (get_or with_word x 0)) (sym same) (subst (may_have i) (sym at_i) may)
        | inr other ↦ subst (may_have j) (sym (at_other j other)) ((reach.matched i l here).had j k other)
      ];
      apart = λ j k p q not_j not_k e. elim (cases_eq j i) [
        | inl same ↦ elim (cases_eq k i) [
          | inl same_too ↦ same ∙ sym same_too
          | inr other ↦ absurd (not_k (alone k q other (sym (at_other k other) ∙ sym e ∙ ap (λ x. get_or with_word x 0) same ∙ at_i)))
        ]
        | inr other ↦ elim (cases_eq k i) [
          | inl same ↦ absurd (not_j (alone j p other (sym (at_other j other) ∙ e ∙ ap (λ x. get_or with_word x 0) same ∙ at_i)))
          | inr other_too ↦ (reach.matched i l here).apart j k p q other other_too (sym (at_other j other) ∙ e ∙ at_other k other_too)
        ]
      ];
    }

    -- what holds of a list that is reached, at o and elsewhere
    by_list : (P : ℕ → List ℕ → Type 0) → P o with_word → ((j : ℕ) → j < n → IsTrue (is_in reached j) → P j (list_at lists j)) →
        (j : ℕ) → j < n → IsTrue (is_in reached_after j) → P j (list_at lists_after j)
    by_list P first rest j k t = elim (cases_eq j o) [
      | inl same ↦ subst (λ x. P x (list_at lists_after x)) (sym same) (subst (P o) (sym list_at_o) first)
      | inr other ↦ subst (P j) (sym (list_other j other)) (rest j k (sym (mark_other j other) ∙ t))
    ]

    -- what is not reached now was not before
    still : (k : ℕ) → is_in reached_after k ≡ false → (k ≢ o) × (is_in reached k ≡ false)
    still k f = elim (cases_eq k o) [
      | inl same ↦ absurd (both_ways _ (subst (λ x. is_in reached_after x ≡ false) same f) mark_at_o)
      | inr other ↦ (other, sym (mark_other k other) ∙ f)
    ]

    kept_at_o : (k : ℕ) → k < n → is_in reached_after k ≡ false → get_or with_word k 0 ≡ get_or words k 0
    kept_at_o k q f =
        let s = still k f in
        let other : k ≢ i = λ e. both_ways _ s.1 (subst (λ x. is_in reached x ≡ true) (sym e) here) in
        at_other k other ∙ reach.kept i k l here q s.1

    owned_at_o : (k : ℕ) → k < n → k ≢ o → (p : ℕ) × IsOwner n hole words (get_or with_word k 0) p
    owned_at_o k q _ = elim (cases_eq k i) [
      | inl same ↦ (o, record { within = owner.within; other = owner.other; has = owner.has ∙ sym at_i ∙ ap (λ x. get_or with_word x 0) (sym same) })
      | inr other ↦ let s = reach.owned i k l here q other in (s.0, record { within = s.1.within; other = s.1.other; has = s.1.has ∙ sym (at_other k other) })
    ]

    size_at_o : length with_word ≡ 64
    unfolding with_word
    size_at_o = length-set (list_at lists i) i word ∙ reach.sizes i l here

    pub moved : IsReach may_have top n hole words (set lists o (set (list_at lists i) i word)) (set reached o true)
    unfolding with_word
    moved = record {
      list_count = length-set lists o _ ∙ reach.list_count;
      mark_count = length-set reached o true ∙ reach.mark_count;
      has_hole = grows hole reach.has_hole;
      sizes = by_list (λ _ xs. length xs ≡ 64) size_at_o reach.sizes;
      matched = by_list (λ j xs. IsMatchingBut may_have top n j xs) but_o reach.matched;
      kept = λ j k p t. by_list (λ _ xs. (k : ℕ) → k < n → is_in reached_after k ≡ false → get_or xs k 0 ≡ get_or words k 0)
          kept_at_o (λ j p t k q f. reach.kept j k p t q (still k f).1) j p t k;
      owned = λ j k p t. by_list (λ j xs. (k : ℕ) → k < n → k ≢ j → (p : ℕ) × IsOwner n hole words (get_or xs k 0) p)
          owned_at_o (λ j p t k q other. reach.owned j k p t q other) j p t k;
    }

-- at first only the one without a word is reached
module _ (may_have : ℕ → ℕ → Type 0) (top n hole : ℕ) (words : List ℕ) (size : length words ≡ 64) (small : n ≤ 64)
    (m : IsMatchingBut may_have top n hole words) (empty : List (List ℕ)) (no_marks : List Bool)
    (lists_are : empty ≡ replicate {A = List ℕ} 64 (replicate {A = ℕ} 64 0)) (marks_are : no_marks ≡ replicate 64 false) where
  lists_long : length empty ≡ 64
  lists_long = ap length lists_are ∙ length-replicate 64 (replicate {A = ℕ} 64 0)

  marks_long : length no_marks ≡ 64
  marks_long = ap length marks_are ∙ length-replicate 64 false

  at_hole : is_in (set no_marks hole true) hole ≡ true
  at_hole = get_or-set_same no_marks hole true false (omega (arith, marks_long, small, m.hole_within))

  only : (i : ℕ) → i < n → IsTrue (is_in (set no_marks hole true) i) → i ≡ hole
  only i p t = elim (cases_eq i hole) [
    | inl same ↦ same
    | inr other ↦ absurd (both_ways _ (get_or-set_other no_marks hole i true false other ∙ ap (λ xs. get_or xs i false) marks_are ∙ get_or-replicate 64 i false false (omega (arith, small))) t)
  ]

  here_first : (i : ℕ) → i < n → IsTrue (is_in (set no_marks hole true) i) → list_at (set empty hole words) i ≡ words
  here_first i p t = ap (list_at (set empty hole words)) (only i p t) ∙ get_or-set_same empty hole words [] (omega (arith, lists_long, small, m.hole_within))

  pub begins : IsReach may_have top n hole words (set empty hole words) (set no_marks hole true)
  begins = record {
    list_count = length-set empty hole words ∙ lists_long;
    mark_count = length-set no_marks hole true ∙ marks_long;
    has_hole = at_hole;
    sizes = λ i p t. subst (λ xs. length xs ≡ 64) (sym (here_first i p t)) size;
    matched = λ i p t. subst (λ xs. IsMatchingBut may_have top n i xs) (sym (here_first i p t)) (subst (λ h. IsMatchingBut may_have top n h words) (sym (only i p t)) m);
    kept = λ i j p t q f. ap (λ xs. get_or xs j 0) (here_first i p t);
    owned = λ i j p t q other. (j, record { within = q; other = λ e. other (e ∙ sym (only i p t)); has = sym (ap (λ xs. get_or xs j 0) (here_first i p t)) });
  }

  pub begins_as : (lists : List (List ℕ)) (reached : List Bool) → lists ≡ set empty hole words → reached ≡ set no_marks hole true → IsReach may_have top n hole words lists reached
  begins_as lists reached e f = subst (λ xs. IsReach may_have top n hole words xs reached) (sym e) (subst (λ ms. IsReach may_have top n hole words (set empty hole words) ms) (sym f) begins)

-- one word more was tried
pub more_words : (may_have : ℕ → ℕ → Type 0) (top n hole : ℕ) (words : List ℕ) (before after : List Bool) (i word : ℕ) → Grows before after →
    ((w : ℕ) → w < top → w < word → may_have i w → IsOwned n hole words before w) → (may_have i word → IsOwned n hole words after word) →
    (w : ℕ) → w < top → w < word + 1 → may_have i w → IsOwned n hole words after w
more_words may_have top n hole words before after i word grows old new w below l may = elim (cases_eq w word) [
  | inl same ↦ subst (λ x. may_have i x → IsOwned n hole words after x) (sym same) new may
  | inr other ↦ let s = old w below (omega arith) may in record { owner = s.owner; is_owner = s.is_owner; is_reached = grows s.owner s.is_reached }
]

-- all that were reached were tried: no list of words for all
pub none_left : (may_have : ℕ → ℕ → Type 0) (top n hole : ℕ) (words other : List ℕ) (lists : List (List ℕ)) (reached : List Bool) →
    n ≤ length words → IsMatchingBut may_have top n hole words → IsReach may_have top n hole words lists reached →
    ((i : ℕ) → i < n → IsTrue (is_in reached i) → IsTried may_have top n hole words reached i) → IsMatching may_have top n other → ⊥
none_left may_have top n hole words other lists reached size m reach tried k =
    no_matching may_have top n hole words other (is_in reached) size m
    (record { has_hole = reach.has_hole; owned = λ i word p t l may. let s = tried i p t word l may in (s.owner, s.is_owner, s.is_reached) })
    k

-- ---- how many are left to try

pub fewer : (tried : List Bool) (i : ℕ) → i < length tried → is_in tried i ≡ false → sum_by weight (set tried i true) < sum_by weight tried
fewer tried i l f =
    let e = sum_by-set weight tried i true false l in
    omega (arith, e, ap weight f)

-- another scenario was tried
pub tried_more : (may_have : ℕ → ℕ → Type 0) (top n hole : ℕ) (words : List ℕ) (before after tried : List Bool) (i : ℕ) → Grows before after →
    ((k : ℕ) → k < n → IsTrue (is_in tried k) → IsTried may_have top n hole words before k) → IsTried may_have top n hole words after i →
    (k : ℕ) → k < n → IsTrue (is_in (set tried i true) k) → IsTried may_have top n hole words after k
tried_more may_have top n hole words before after tried i grows old new k l t word below may = elim (cases_eq k i) [
  | inl same ↦ new word below (subst (λ x. may_have x word) same may)
  | inr other ↦ let s = old k l (sym (get_or-set_other tried i k true false other) ∙ t) word below may in
      record { owner = s.owner; is_owner = s.is_owner; is_reached = grows s.owner s.is_reached }
]

pub closed_now : (may_have : ℕ → ℕ → Type 0) (top n hole : ℕ) (words : List ℕ) (lists : List (List ℕ)) (reached : List Bool) →
    IsReach may_have top n hole words lists reached →
    ((i : ℕ) → i < n → IsTrue (is_in reached i) → IsTried may_have top n hole words reached i) → IsHallViolator may_have top n hole words (is_in reached)
closed_now may_have top n hole words lists reached reach tried =
    record { has_hole = reach.has_hole; owned = λ i word p t l may. let s = tried i p t word l may in (s.owner, s.is_owner, s.is_reached) }
