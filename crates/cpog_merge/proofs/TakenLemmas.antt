-- Columns that are taken in order, each where it is incompatible with all that are taken before it.
use Rattle.std.proofs.Common.{◌≡◌, ◌↔◌, ℕ, zero, suc, ◌+◌, ◌<◌, ◌≤◌, Bool, true, false, IsTrue, List, [], ◌∷◌, ◌++◌, length, map, get_or, refl, sym, ap, ◌∙◌, subst, inl, inr, arith, add-one}
use Rattle.std.specs.List.{All, Contains}
use Rattle.std.proofs.lemmas.Bool.{cases_lt, both_ways}
use Rattle.std.proofs.lemmas.List.{length-map, get_or-map, get_or_default}
use Rattle.std.proofs.lemmas.List.Elements.{All-contains, All-from_get_or, Contains-append_left, Contains-append_cases, Contains-get_or, Contains-push}
use Rattle.cpog_defs.specs.declared.types.Bit3.{Bit3}
use Rattle.cpog_defs.specs.declared.types.Place.{Place}
use Rattle.cpog_defs.specs.declared.types.Place.TheVariants.{Op}
use Rattle.cpog_defs.specs.Orders.{Order}
use Rattle.cpog_defs.specs.Graphs.{IsPlace}
use Rattle.cpog_defs.specs.Columns.{column, entry}
use Rattle.gate_core.specs.Columns.{IsOpenColumn}
use Rattle.cpog_merge.specs.Columns.{Columns, column_at, count_of, AreColumnsOf}
use Rattle.cpog_merge.specs.Classes.{IsClass, Classes, AreClassesOf}
use Rattle.cpog_merge.specs.Incompatible.{AreIncompatible, IsCountEvidence, AreTaken, IsIncompatibleSet, column_of, place_at}
use Rattle.cpog_merge.proofs.ListLemmas.{pairs_nil, pairs_one, pairs_append, contains_nil, contains_one, same_ordered}

-- ---- one column after another

pub none_taken : (columns : List (List Bit3)) → AreTaken columns 0 []
none_taken columns = record {
  in_order = pairs_nil (λ s t. s < t);
  exactly = λ c. (λ h. absurd (contains_nil c h), λ h. absurd (omega (arith, h.0)));
}

module _ (columns : List (List Bit3)) (n : ℕ) (taken : List ℕ) (are : AreTaken columns n taken) where
  abbrev Apart : ℕ → Type 0
  Apart c = (t : ℕ) → Contains taken t → AreIncompatible (column_of columns t) (column_of columns c)

  pub below : (t : ℕ) → Contains taken t → t < n
  below t h = ((are.exactly t).0 h).0

  pub one_passed : (Apart n → ⊥) → AreTaken columns (suc n) taken
  one_passed not_apart = record {
    in_order = are.in_order;
    exactly = λ c. (
      λ h. let old = (are.exactly c).0 h in (omega (arith, old.0), old.1),
      λ h. elim (cases_lt c n) [
        | inl near ↦ (are.exactly c).1 (near, h.1)
        | inr far ↦
            let same : c ≡ n = omega (arith, h.0) in
            absurd (not_apart (λ t there. subst (λ k. AreIncompatible (column_of columns t) (column_of columns k)) same (h.1 t there (omega (arith, below t there)))))
      ],
    );
  }

  pub one_taken : Apart n → AreTaken columns (suc n) (taken ++ n ∷ [])
  one_taken apart = record {
    in_order = pairs_append (λ s t. s < t) taken (n ∷ []) are.in_order (pairs_one (λ s t. s < t) n)
        (λ s t there last. subst (λ k. s < k) (contains_one n t last) (below s there));
    exactly = λ c. (
      λ h. elim (Contains-append_cases taken (n ∷ []) c h) [
        | inl there ↦
            let old = (are.exactly c).0 there in (
              omega (arith, old.0),
              λ t k l. elim (Contains-append_cases taken (n ∷ []) t k) [
                | inl earlier ↦ old.1 t earlier l
                | inr last ↦ absurd (omega (arith, l, old.0, contains_one n t last))
              ],
            )
        | inr last ↦
            let same : n ≡ c = contains_one n c last in (
              omega (arith, same),
              λ t k l. elim (Contains-append_cases taken (n ∷ []) t k) [
                | inl earlier ↦ subst (λ m. AreIncompatible (column_of columns t) (column_of columns m)) same (apart t earlier)
                | inr too ↦ absurd (omega (arith, l, same, contains_one n t too))
              ],
            )
      ],
      λ h. elim (cases_lt c n) [
        | inl near ↦ Contains-append_left taken (n ∷ []) c ((are.exactly c).1 (near, λ t k l. h.1 t (Contains-append_left taken (n ∷ []) t k) l))
        | inr far ↦
            let same : n ≡ c = omega (arith, h.0) in
            subst (λ m. Contains (taken ++ n ∷ []) m) same (Contains-push taken n)
      ],
    );
  }

-- ---- what the loops establish

-- a column that is read with any default
pub column_read : (columns : List (List Bit3)) (c : ℕ) (x : List Bit3) → c < length columns → x ≡ get_or columns c x → column_of columns c ≡ x
column_read columns c x l is = get_or_default columns c [] x l ∙ sym is

module _ (columns : List (List Bit3)) (taken : List ℕ) (c : ℕ) where
  abbrev pub ApartFrom : Type 0
  ApartFrom = (t : ℕ) → Contains taken t → AreIncompatible (column_of columns t) (column_of columns c)

  -- one that isn't incompatible
  pub not_apart_from : (k : ℕ) (b : Bool) → k < length taken → IsTrue b ↔ AreIncompatible (column_of columns (get_or taken k 0)) (column_of columns c) → b ≡ false → IsTrue false ↔ ApartFrom
  not_apart_from k b l tells is = (λ h. absurd (both_ways false refl h), λ h. absurd (both_ways b is (tells.1 (h (get_or taken k 0) (Contains-get_or taken k 0 l)))))

  pub apart_more : (k : ℕ) (b : Bool) → ((i : ℕ) → i < k → AreIncompatible (column_of columns (get_or taken i 0)) (column_of columns c)) →
      IsTrue b ↔ AreIncompatible (column_of columns (get_or taken k 0)) (column_of columns c) → IsTrue b →
      (i : ℕ) → i < k + 1 → AreIncompatible (column_of columns (get_or taken i 0)) (column_of columns c)
  apart_more k b before tells is i l = elim (cases_lt i k) [
    | inl less ↦ before i less
    | inr more ↦
        let same : k ≡ i = omega arith in
        subst (λ m. AreIncompatible (column_of columns (get_or taken m 0)) (column_of columns c)) same (tells.0 is)
  ]

  pub apart_from : ((i : ℕ) → i < length taken → AreIncompatible (column_of columns (get_or taken i 0)) (column_of columns c)) → IsTrue true ↔ ApartFrom
  apart_from all = (
    λ h t there. All-contains (λ t. AreIncompatible (column_of columns t) (column_of columns c)) taken t
        (All-from_get_or (λ t. AreIncompatible (column_of columns t) (column_of columns c)) taken 0 all) there,
    λ h. refl,
  )

module _ (columns : List (List Bit3)) (n : ℕ) (taken lent : List ℕ) where
  pub taken_below : AreTaken columns n taken → lent ≡ taken → n ≤ length columns → All (λ t. t < length columns) lent
  taken_below are same few = subst (All (λ t. t < length columns)) (sym same) (λ k d l. omega (arith, below columns n taken are (get_or taken k d) (Contains-get_or taken k d l)))

  module _ (after : List ℕ) (b : Bool) (are : AreTaken columns n taken) (same : lent ≡ taken) (tells : IsTrue b ↔ ApartFrom columns lent n) where
    pub one_more_taken : IsTrue b → after ≡ taken ++ n ∷ [] → AreTaken columns (n + 1) after
    one_more_taken is now =
        subst (λ m. AreTaken columns m after) (sym (add-one n))
        (subst (AreTaken columns (suc n)) (sym now) (one_taken columns n taken are (subst (λ l. ApartFrom columns l n) same (tells.0 is))))

    pub one_more_passed : b ≡ false → after ≡ taken → AreTaken columns (n + 1) after
    one_more_passed is now =
        subst (λ m. AreTaken columns m after) (sym (add-one n))
        (subst (AreTaken columns (suc n)) (sym now) (one_passed columns n taken are (λ h. absurd (both_ways b is (tells.1 (subst (λ l. ApartFrom columns l n) (sym same) h))))))

-- ---- columns have one such set

module _ (columns : List (List Bit3)) (m : ℕ) (a b : List ℕ) (x : AreTaken columns m a) (y : AreTaken columns m b) where
  same_below : (n c : ℕ) → c < n → Contains a c ↔ Contains b c
  same_below zero c l = absurd (omega arith)
  same_below (suc n) c l = (
    λ h. let p = (x.exactly c).0 h in (y.exactly c).1 (p.0, λ t k lt. p.1 t ((same_below n t (omega arith)).1 k) lt),
    λ h. let p = (y.exactly c).0 h in (x.exactly c).1 (p.0, λ t k lt. p.1 t ((same_below n t (omega arith)).0 k) lt),
  )

  pub sets_are_one : a ≡ b
  sets_are_one = same_ordered (λ s t. s < t) (λ s t l k. absurd (omega arith)) a b x.in_order y.in_order
      (λ c h. (same_below (suc c) c (omega arith)).0 h) (λ c h. (same_below (suc c) c (omega arith)).1 h)

-- ---- the classes that are taken

module _ (orders : List Order) (t : Columns) (list : Classes) (taken : List ℕ) (are : AreColumnsOf orders t) (classes : AreClassesOf t list) (set : IsIncompatibleSet list.columns taken) where
  abbrev places : List Place
  places = map (place_at list) taken

  size : length list.columns ≡ length list.places
  size = ap length classes.columns ∙ length-map list.places (column_at t)

  class_of : (c : ℕ) → c < length list.columns → IsClass t (place_at list c)
  class_of c l = classes.places.each c (Op (record { 0 = 0 })) (omega (arith, size))

  place_of : (c : ℕ) → c < length list.columns → IsPlace (count_of orders) (place_at list c)
  place_of c l = subst (λ n. IsPlace n (place_at list c)) are.count (class_of c l).is_open.place

  is_column : (c : ℕ) → c < length list.columns → column_of list.columns c ≡ column orders (place_at list c)
  is_column c l =
      ap (λ cs. get_or cs c []) classes.columns ∙ get_or-map (column_at t) list.places c (Op (record { 0 = 0 })) [] (omega (arith, size)) ∙ are.columns (place_at list c) (place_of c l)

  open_of : (c : ℕ) → c < length list.columns → IsOpenColumn (length orders) (column orders (place_at list c))
  open_of c l =
      let o = subst (λ col. IsOpenColumn (length col) col) (are.columns (place_at list c) (place_of c l)) (class_of c l).is_open.column in
      record { entries = length-map orders (entry (place_at list c)); some_one = o.some_one; some_zero = o.some_zero }

  within : (k : ℕ) → k < length places → get_or taken k 0 < length list.columns
  within k l = below list.columns (length list.columns) taken set (get_or taken k 0) (Contains-get_or taken k 0 (omega (arith, length-map taken (place_at list))))

  here : (k : ℕ) (d : Place) → k < length places → get_or places k d ≡ place_at list (get_or taken k 0)
  here k d l = get_or-map (place_at list) taken k 0 d (omega (arith, length-map taken (place_at list)))

  pub set_is_evidence : IsCountEvidence (count_of orders) orders places
  set_is_evidence = record {
    places_are = λ k d l. subst (IsPlace (count_of orders)) (sym (here k d l)) (place_of (get_or taken k 0) (within k l));
    open_columns = λ k d l. subst (λ p. IsOpenColumn (length orders) (column orders p)) (sym (here k d l)) (open_of (get_or taken k 0) (within k l));
    apart = λ i j d lt l.
        let li : i < length places = omega arith in
        let lj : j < length taken = omega (arith, length-map taken (place_at list)) in
        let c : ℕ = get_or taken i 0 in
        let e : ℕ = get_or taken j 0 in
        let a : AreIncompatible (column_of list.columns c) (column_of list.columns e) =
        ((set.exactly e).0 (Contains-get_or taken j 0 lj)).1 c (Contains-get_or taken i 0 (omega arith)) (set.in_order i j 0 lt lj) in
        rw (here i d li, here j d l) (rw (← is_column c (within i li), ← is_column e (within j l)) a);
  }
