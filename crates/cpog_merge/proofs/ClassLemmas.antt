-- The places that are chosen are exactly the classes, in column order, and each column belongs as it should.
use Rattle.std.proofs.Common.{◌≡◌, ◌↔◌, ℕ, zero, suc, ◌+◌, ◌*◌, ◌<◌, ◌≤◌, Bool, true, false, not, if◌then◌else◌, IsTrue, List, [], ◌∷◌, length, map, get_or, refl, sym, ap, ap₂, subst, ◌∙◌, inl, inr, arith, length-append}
use Rattle.std.specs.List.{list_any, All, AllPairs, Contains}
use Rattle.std.proofs.lemmas.Bool.{cases_Bool, cases_lt, cases_eq, both_ways, or_cases, and_parts, and_from}
use Rattle.std.specs.Bool.{Decides}
use Rattle.std.proofs.lemmas.Bool.Decides.{same_from_decides}
use Rattle.std.proofs.lemmas.List.{length-map, get_or-map, get_or_default}
use Rattle.std.proofs.lemmas.List.Elements.{All-get_or, All-map, Contains-get_or}
use Rattle.std.proofs.lemmas.List.Sums.{fails_before_first, passes_at_first}
use Rattle.std.proofs.Math.Nat.{mul-le-mul_right}
use Rattle.cpog_base.specs.Column.{is_one, is_zero, Serves}
use Rattle.cpog_defs.specs.declared.types.Bit3.{Bit3}
use Rattle.cpog_defs.specs.declared.types.Place.{Place}
use Rattle.cpog_defs.specs.declared.types.Place.TheVariants.{Op, Arc}
use Rattle.cpog_defs.specs.Orders.{each_below}
use Rattle.cpog_defs.specs.Graphs.{IsPlace}
use Rattle.cpog_merge.specs.declared.class_list.Belongs.TheVariants.{Class}
use Rattle.cpog_merge.specs.Columns.{Columns, AreColumns, column_at}
use Rattle.cpog_merge.specs.Classes.{ComesBefore, ServesAs, IsServedBy, IsOpenPlace, IsClass, Classes, class_column, BelongsTo, AreClassPlaces}
use Rattle.cpog_merge.specs.Opens.{open_places, serves_as, serves, is_class_at, chosen, first_class, belonging, HasClass, HaveClasses}
use Rattle.cpog_merge.proofs.ListLemmas.{contains_head, contains_nil, contains_one, in_each_below, from_each_below, pairs_nil, pairs_one, pairs_each_below}
use Rattle.cpog_merge.proofs.ServingLemmas.{serves_decides, served_decides}
use Rattle.cpog_merge.proofs.ChosenLemmas.{at, IsClassIn, class_from_test, test_from_class, has_class}
use Rattle.cpog_merge.proofs.OpenLemmas.{one_way, listed_open, open_listed, open_in_order, few_open}

-- a column has an entry for each scenario
pub column_size : (t : Columns) → AreColumns t → (p : Place) → IsPlace t.count p → length (column_at t p) ≡ t.scenarios
column_size t is (Op v) l = All-get_or (λ c. length c ≡ t.scenarios) t.ops v.0 [] (omega (arith, is.ops_each)) is.op_entries
column_size t is (Arc u v) l =
    let first : u.0 < t.count = l.0 in
    let second : v.0 < t.count = l.1 in
    let bound : suc v.0 * t.count ≤ t.count * t.count = mul-le-mul_right t.count (omega arith) in
    let more : suc v.0 * t.count ≡ v.0 * t.count + t.count = grind arith in
    All-get_or (λ c. length c ≡ t.scenarios) t.arcs (v.0 * t.count + u.0) [] (omega (arith, is.arcs_each)) is.arc_entries

module _ (t : Columns) (is : AreColumns t) where
  abbrev pub open_columns : List (List Bit3)
  open_columns = map (column_at t) (open_places t)

  no_place : Place
  no_place = Op (record { 0 = 0 })

  size : length open_columns ≡ length (open_places t)
  size = length-map (open_places t) (column_at t)

  -- the place, and its column
  column_there : (i : ℕ) (d : Place) → i < length (open_places t) → at open_columns i ≡ column_at t (get_or (open_places t) i d)
  column_there i d l = get_or-map (column_at t) (open_places t) i d [] l

  open_there : (i : ℕ) (d : Place) → i < length (open_places t) → IsOpenPlace t (get_or (open_places t) i d)
  open_there i d l = listed_open t (get_or (open_places t) i d) (Contains-get_or (open_places t) i d l)

  pub short_columns : All (λ c. length c ≤ 64) open_columns
  short_columns = All-map (λ c. length c ≤ 64) (column_at t) (open_places t) (λ k d l. omega (arith, column_size t is (get_or (open_places t) k d) (open_there k d l).place, is.few_scenarios))

  -- ---- a class by its place in the list

  module _ (i : ℕ) (d : Place) (l : i < length (open_places t)) where
    here : Place
    here = get_or (open_places t) i d

    pub class_from : IsClassIn open_columns i → IsClass t (get_or (open_places t) i d)
    class_from h = record {
      is_open = open_there i d l;
      none_earlier = λ q o before served.
          let r = open_listed t q o in
          let k : ℕ = r.0 in
          let column_q : at open_columns k ≡ column_at t q = column_there k q r.1 ∙ ap (column_at t) r.2 in
          elim (cases_lt k i) [
            | inl less ↦ h.none_earlier k less (subst (λ c. IsServedBy c (at open_columns k)) (sym (column_there i d l)) (subst (IsServedBy (column_at t (get_or (open_places t) i d))) (sym column_q) served))
            | inr more ↦ one_way q (get_or (open_places t) i d) before (not_before k q r.1 r.2 more before)
          ];
      serves_back = λ q o after served.
          let r = open_listed t q o in
          let k : ℕ = r.0 in
          let column_q : at open_columns k ≡ column_at t q = column_there k q r.1 ∙ ap (column_at t) r.2 in
          let back = h.serves_back k (is_after k q r.1 r.2 after) (omega (arith, size, r.1)) (subst (λ c. IsServedBy c (at open_columns k)) (sym (column_there i d l)) (subst (IsServedBy (column_at t (get_or (open_places t) i d))) (sym column_q) served)) in
          subst (λ c. IsServedBy c (column_at t (get_or (open_places t) i d))) column_q (subst (IsServedBy (at open_columns k)) (column_there i d l) back);
    }
      where
        -- an earlier place stands earlier
        not_before : (k : ℕ) (q : Place) → k < length (open_places t) → get_or (open_places t) k q ≡ q → i ≤ k → ComesBefore q (get_or (open_places t) i d) → ComesBefore (get_or (open_places t) i d) q
        not_before k q m e le before = elim (cases_eq i k) [
          | inl same ↦
              let self : get_or (open_places t) i d ≡ q = get_or_default (open_places t) i d q l ∙ ap (λ n. get_or (open_places t) n q) same ∙ e in
              subst (λ z. ComesBefore z q) (sym self) (subst (ComesBefore q) self before)
          | inr other ↦
              subst (ComesBefore (get_or (open_places t) i d)) (get_or_default (open_places t) k d q m ∙ e) (open_in_order t i k d (omega arith) m)
        ]

        is_after : (k : ℕ) (q : Place) → k < length (open_places t) → get_or (open_places t) k q ≡ q → ComesBefore (get_or (open_places t) i d) q → i < k
        is_after k q m e after = elim (cases_lt i k) [
          | inl less ↦ less
          | inr more ↦ elim (cases_eq i k) [
            | inl same ↦
                let self : get_or (open_places t) i d ≡ q = get_or_default (open_places t) i d q l ∙ ap (λ n. get_or (open_places t) n q) same ∙ e in
                let loop : ComesBefore q q = subst (λ z. ComesBefore z q) self after in
                absurd (one_way q q loop loop)
            | inr other ↦
                let back : ComesBefore q (get_or (open_places t) i d) =
                subst (λ z. ComesBefore z (get_or (open_places t) i d)) (get_or_default (open_places t) k d q m ∙ e) (open_in_order t k i d (omega arith) l) in
                absurd (one_way q (get_or (open_places t) i d) back after)
          ]
        ]

    pub in_list_from : IsClass t (get_or (open_places t) i d) → IsClassIn open_columns i
    in_list_from h = record {
      none_earlier = λ k less served.
          let m : k < length (open_places t) = omega arith in
          h.none_earlier (get_or (open_places t) k d) (open_there k d m) (open_in_order t k i d less l)
          (subst (λ c. IsServedBy c (column_at t (get_or (open_places t) k d))) (column_there i d l) (subst (IsServedBy (at open_columns i)) (column_there k d m) served));
      serves_back = λ k more n served.
          let m : k < length (open_places t) = omega (arith, size) in
          let back = h.serves_back (get_or (open_places t) k d) (open_there k d m) (open_in_order t i k d more m)
          (subst (λ c. IsServedBy c (column_at t (get_or (open_places t) k d))) (column_there i d l) (subst (IsServedBy (at open_columns i)) (column_there k d m) served)) in
          subst (λ c. IsServedBy c (at open_columns i)) (sym (column_there k d m)) (subst (IsServedBy (column_at t (get_or (open_places t) k d))) (sym (column_there i d l)) back);
    }

  -- ---- the list of the classes

  abbrev pub class_list : List Place
  class_list = chosen open_columns (open_places t) (length open_columns)

  abbrev chosen_at : ℕ → List Place
  chosen_at i = if is_class_at open_columns i then get_or (open_places t) i (Op (record { 0 = 0 })) ∷ [] else []

  only : (i : ℕ) (q : Place) → Contains (chosen_at i) q → IsTrue (is_class_at open_columns i) × (get_or (open_places t) i (Op (record { 0 = 0 })) ≡ q)
  only i q h = go (is_class_at open_columns i) refl h
    where
      go : (b : Bool) → is_class_at open_columns i ≡ b → Contains (if b then get_or (open_places t) i (Op (record { 0 = 0 })) ∷ [] else []) q → IsTrue (is_class_at open_columns i) × (get_or (open_places t) i (Op (record { 0 = 0 })) ≡ q)
      go true e h = (e, contains_one _ q h)
      go false e h = absurd (contains_nil q h)

  pub listed_class : (q : Place) → Contains class_list q → IsClass t q
  listed_class q h =
      let a = from_each_below chosen_at (length open_columns) q h in
      let r = only a.0 q a.2 in
      let m : a.0 < length (open_places t) = omega (arith, a.1, size) in
      subst (IsClass t) r.1 (class_from a.0 (Op (record { 0 = 0 })) m (class_from_test open_columns a.0 a.1 r.0))

  pub class_listed : (q : Place) → IsClass t q → Contains class_list q
  class_listed q h =
      let r = open_listed t q h.is_open in
      let i : ℕ = r.0 in
      let l : i < length (open_places t) = r.1 in
      let n : i < length open_columns = omega (arith, size) in
      let test : IsTrue (is_class_at open_columns i) = test_from_class open_columns i n (in_list_from i q l (subst (IsClass t) (sym r.2) h)) in
      let e : get_or (open_places t) i (Op (record { 0 = 0 })) ≡ q = get_or_default (open_places t) i (Op (record { 0 = 0 })) q l ∙ r.2 in
      in_each_below chosen_at (length open_columns) i q n (rw test (subst (λ z. Contains (get_or (open_places t) i (Op (record { 0 = 0 })) ∷ []) z) e (contains_head _ [])))

  pub classes_in_order : AllPairs ComesBefore class_list
  classes_in_order = pairs_each_below ComesBefore chosen_at (length open_columns) alone
      (λ i j x y l m h k.
      let a = (only i x h).1 in
      let b = (only j y k).1 in
      subst (λ z. ComesBefore z y) a (subst (ComesBefore (get_or (open_places t) i (Op (record { 0 = 0 })))) b (open_in_order t i j (Op (record { 0 = 0 })) l (omega (arith, size)))))
    where
      alone : (i : ℕ) → AllPairs ComesBefore (chosen_at i)
      alone i = go (is_class_at open_columns i)
        where
          go : (b : Bool) → AllPairs ComesBefore (if b then get_or (open_places t) i (Op (record { 0 = 0 })) ∷ [] else [])
          go true = pairs_one ComesBefore _
          go false = pairs_nil ComesBefore

  few_chosen : (n : ℕ) → length (each_below chosen_at n) ≤ n
  few_chosen zero = omega arith
  few_chosen (suc n) = omega (arith, few_chosen n, one_at_most (is_class_at open_columns n), length-append (each_below chosen_at n) (chosen_at n))
    where
      one_at_most : (b : Bool) → length (if b then get_or (open_places t) n (Op (record { 0 = 0 })) ∷ [] else []) ≤ 1
      one_at_most true = omega arith
      one_at_most false = omega arith

  pub few_classes : length class_list ≤ 16384
  few_classes =
      let square : t.count * t.count ≤ 128 * t.count = mul-le-mul_right t.count is.few_ops in
      omega (arith, few_chosen (length open_columns), size, few_open t, is.few_ops)

  pub classes_are_places : All (IsPlace t.count) class_list
  classes_are_places = λ k d l. (listed_class (get_or class_list k d) (Contains-get_or class_list k d l)).is_open.place

  pub opens_are_places : All (IsPlace t.count) (open_places t)
  opens_are_places = λ k d l. (open_there k d l).place

  pub are_class_places : AreClassPlaces t class_list
  are_class_places = record {
    each = λ k d l. listed_class (get_or class_list k d) (Contains-get_or class_list k d l);
    all = class_listed;
    in_order = classes_in_order;
  }

  -- ---- each open column has a class

  -- where some class serves a column there is a first one
  first_found : (classes : List (List Bit3)) (column : List Bit3) (k : ℕ) → k < length classes → IsServedBy column (at classes k) → first_class classes column < length classes
  first_found classes column k l served = elim (cases_lt (first_class classes column) (length classes)) [
    | inl less ↦ less
    | inr more ↦
        let fails = fails_before_first (λ b. serves b column) classes k [] (omega arith) in
        absurd (both_ways _ fails ((served_decides (at classes k) column).1 served))
  ]

  -- what serves the column of one open place is the column of another
  at_columns : (i k : ℕ) (d p : Place) → i < length (open_places t) → k < length (open_places t) → column_at t (get_or (open_places t) i d) ≡ column_at t p →
      IsServedBy (at open_columns i) (at open_columns k) → IsServedBy (column_at t p) (column_at t (get_or (open_places t) k d))
  at_columns i k d p l m is served =
      subst (λ c. IsServedBy c (column_at t (get_or (open_places t) k d))) (column_there i d l ∙ is) (subst (IsServedBy (at open_columns i)) (column_there k d m) served)

  -- a class that serves a column stands in the list
  found_there : (places : List Place) (class : Place) (column : List Bit3) (k : ℕ) → k < length places → get_or places k class ≡ class → IsServedBy column (column_at t class) →
      first_class (map (column_at t) places) column < length (map (column_at t) places)
  found_there places class column k l is served =
      first_found (map (column_at t) places) column k (omega (arith, length-map places (column_at t)))
      (subst (IsServedBy column) (sym (get_or-map (column_at t) places k class [] l ∙ ap (column_at t) is)) served)

  pub have_classes : (places : List Place) → AreClassPlaces t places → HaveClasses (map (column_at t) places) t
  have_classes places are = record {
    each = λ p l asked.
        let both = and_parts (list_any is_one (column_at t p)) (list_any is_zero (column_at t p)) asked in
        let r = open_listed t p (record { place = l; column = record { entries = refl; some_one = both.0; some_zero = both.1 } }) in
        let found = has_class open_columns 64 short_columns r.0 (omega (arith, size, r.1)) in
        let m : found.class < length (open_places t) = omega (arith, found.in_range, size) in
        let class : Place = get_or (open_places t) found.class p in
        let q = are.all class (class_from found.class p m (class_from_test open_columns found.class found.in_range found.is_class)) in
        let served : IsServedBy (column_at t p) (column_at t (get_or (open_places t) found.class p)) =
        at_columns r.0 found.class p p r.1 m (ap (column_at t) r.2) found.serves in
        found_there places class (column_at t p) q.0 q.1 q.2 served;
  }

-- ---- what a column belongs to

-- the first class that serves it, with the sign of that class
pub belongs_class : (classes : List (List Bit3)) (column found : List Bit3) (number : ℕ) (b : Bool) → IsTrue (list_any is_one column) → IsTrue (list_any is_zero column) → HasClass classes column →
    number ≡ first_class classes column → found ≡ get_or classes number found → IsTrue b ↔ Serves found column → Class number (not b) ≡ belonging classes column
belongs_class classes column found number b one none has is at_number tells =
    let l : first_class classes column < length classes = has (and_from _ _ one none) in
    let e : found ≡ get_or classes (first_class classes column) [] =
    at_number ∙ ap (λ n. get_or classes n found) is ∙ get_or_default classes (first_class classes column) found [] l in
    let sign : b ≡ serves_as false (get_or classes (first_class classes column) []) column =
    same_from_decides {P = Serves found column} b (serves_as false (get_or classes (first_class classes column) []) column) tells
    (subst (λ c. Decides (serves_as false (get_or classes (first_class classes column) []) column) (Serves c column)) (sym e) (serves_decides false (get_or classes (first_class classes column) []) column)) in
    rw (one, none) (ap₂ (λ n s. Class n (not s)) is sign)

-- what is computed is what it belongs to
pub belongs_as_said : (list : Classes) (column : List Bit3) → HasClass list.columns column → BelongsTo list column (belonging list.columns column)
belongs_as_said list column has = elim (cases_Bool (list_any is_one column)) [
  | inr none ↦ rw none none
  | inl one ↦ elim (cases_Bool (list_any is_zero column)) [
    | inr none ↦ rw (one, none) (one, none)
    | inl some ↦ rw (one, some) (
      one,
      some,
      record {
        in_range = range one some;
        serves = signed (serves_as false class column) refl (range one some);
        first = λ k less served.
            let fails = fails_before_first (λ b. serves b column) list.columns k [] less in
            both_ways _ fails ((served_decides (class_column list k) column).1 served);
      },
    )
  ]
]
  where
    class : List Bit3
    class = class_column list (first_class list.columns column)

    range : IsTrue (list_any is_one column) → IsTrue (list_any is_zero column) → first_class list.columns column < length list.columns
    range one some = has (and_from _ _ one some)

    signed : (b : Bool) → serves_as false class column ≡ b → first_class list.columns column < length list.columns → ServesAs (not b) class column
    signed true e l = (serves_decides false class column).0 e
    signed false e l =
        let passes = passes_at_first (λ b. serves b column) list.columns [] l in
        elim (or_cases _ _ passes) [ inl plain ↦ absurd (both_ways _ e plain) | inr turned ↦ (serves_decides true class column).0 turned ]
