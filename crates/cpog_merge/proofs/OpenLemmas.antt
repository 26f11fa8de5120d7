-- The list of the open places: exactly these, in column order.
use Rattle.std.proofs.Common.{◌≡◌, ◌≢◌, ℕ, zero, suc, ◌+◌, ◌*◌, ◌<◌, ◌≤◌, ◌==◌, Bool, true, false, if◌then◌else◌, IsTrue, List, [], ◌∷◌, length, refl, subst, inl, inr, arith, length-append}
use Rattle.std.specs.List.{list_any, AllPairs, Contains}
use Rattle.std.proofs.lemmas.Bool.{cases_eq, ne_eqb, eqb-false, eq-eqb, and_parts, and_from}
use Rattle.std.proofs.lemmas.List.Elements.{Contains-append_left, Contains-append_right, Contains-append_cases}
use Rattle.cpog_base.specs.Column.{is_one, is_zero}
use Rattle.cpog_defs.specs.declared.types.Place.{Place}
use Rattle.cpog_defs.specs.declared.types.Place.TheVariants.{Op, Arc}
use Rattle.cpog_defs.specs.Orders.{each_below}
use Rattle.cpog_defs.specs.Graphs.{IsPlace}
use Rattle.cpog_merge.specs.Columns.{Columns, column_at}
use Rattle.cpog_merge.specs.Classes.{ComesBefore, IsOpenPlace}
use Rattle.cpog_merge.specs.Opens.{is_open, open_at, open_ops, open_arcs_from, open_places}
use Rattle.cpog_merge.proofs.ListLemmas.{contains_head, contains_nil, contains_one, in_each_below, from_each_below, pairs_nil, pairs_one, pairs_append, pairs_each_below}

-- ---- column order goes one way

pub one_way : (p q : Place) → ComesBefore p q → ComesBefore q p → ⊥
one_way (Op u) (Op v) h k = absurd (omega arith)
one_way (Op u) (Arc v w) h k = k
one_way (Arc u v) (Op w) h k = h
one_way (Arc u v) (Arc x y) (inl a) (inl b) = absurd (omega arith)
one_way (Arc u v) (Arc x y) (inl a) (inr b) = absurd (omega (arith, b.0))
one_way (Arc u v) (Arc x y) (inr a) (inl b) = absurd (omega (arith, a.0))
one_way (Arc u v) (Arc x y) (inr a) (inr b) = absurd (omega (arith, a.1, b.1))

module _ (t : Columns) where
  abbrev op_list : ℕ → List Place
  op_list v = open_at t (Op (record { 0 = v }))

  abbrev pub arc_list : ℕ → ℕ → List Place
  arc_list u v = if u == v then [] else open_at t (Arc (record { 0 = u }) (record { 0 = v }))

  -- ---- which place stands there

  only : (p q : Place) → Contains (open_at t p) q → IsTrue (is_open (column_at t p)) × (p ≡ q)
  only p q h = go (is_open (column_at t p)) refl h
    where
      go : (b : Bool) → is_open (column_at t p) ≡ b → Contains (if b then p ∷ [] else []) q → IsTrue (is_open (column_at t p)) × (p ≡ q)
      go true e h = (e, contains_one p q h)
      go false e h = absurd (contains_nil q h)

  there : (p : Place) → IsTrue (is_open (column_at t p)) → Contains (open_at t p) p
  there p e = rw e (contains_head p [])

  only_arc : (u v : ℕ) (q : Place) → Contains (arc_list u v) q → (u ≢ v) × IsTrue (is_open (column_at t (Arc (record { 0 = u }) (record { 0 = v })))) × (Arc (record { 0 = u }) (record { 0 = v }) ≡ q)
  only_arc u v q h = go (u == v) refl h
    where
      go : (b : Bool) → (u == v) ≡ b → Contains (if b then [] else open_at t (Arc (record { 0 = u }) (record { 0 = v }))) q →
          (u ≢ v) × IsTrue (is_open (column_at t (Arc (record { 0 = u }) (record { 0 = v })))) × (Arc (record { 0 = u }) (record { 0 = v }) ≡ q)
      go true e h = absurd (contains_nil q h)
      go false e h = let r = only (Arc (record { 0 = u }) (record { 0 = v })) q h in (eqb-false u v e, r.0, r.1)

  opened : (p : Place) → IsPlace t.count p → IsTrue (is_open (column_at t p)) → IsOpenPlace t p
  opened p l e = let both = and_parts (list_any is_one (column_at t p)) (list_any is_zero (column_at t p)) e in record { place = l; column = record { entries = refl; some_one = both.0; some_zero = both.1 } }

  pub open_test : (p : Place) → IsOpenPlace t p → IsTrue (is_open (column_at t p))
  open_test p o = and_from (list_any is_one (column_at t p)) (list_any is_zero (column_at t p)) o.column.some_one o.column.some_zero

  -- ---- exactly the open places

  pub listed_open : (q : Place) → Contains (open_places t) q → IsOpenPlace t q
  listed_open q h = elim (Contains-append_cases (open_ops t t.count) (each_below (open_arcs_from t t.count) t.count) q h) [
    | inl ops ↦
        let a = from_each_below op_list t.count q ops in
        let r = only (Op (record { 0 = a.0 })) q a.2 in
        subst (IsOpenPlace t) r.1 (opened (Op (record { 0 = a.0 })) a.1 r.0)
    | inr arcs ↦
        let a = from_each_below (open_arcs_from t t.count) t.count q arcs in
        let b = from_each_below (arc_list a.0) t.count q a.2 in
        let r = only_arc a.0 b.0 q b.2 in
        subst (IsOpenPlace t) r.2 (opened (Arc (record { 0 = a.0 }) (record { 0 = b.0 })) (a.1, b.1, r.0) r.1)
  ]

  pub open_listed : (q : Place) → IsOpenPlace t q → Contains (open_places t) q
  open_listed (Op v) o =
      Contains-append_left (open_ops t t.count) (each_below (open_arcs_from t t.count) t.count) (Op v)
      (in_each_below op_list t.count v.0 (Op v) o.place (there (Op v) (open_test (Op v) o)))
  open_listed (Arc u v) o =
      let here : Contains (arc_list u.0 v.0) (Arc u v) = rw (ne_eqb u.0 v.0 o.place.2) (there (Arc u v) (open_test (Arc u v) o)) in
      Contains-append_right (open_ops t t.count) (each_below (open_arcs_from t t.count) t.count) (Arc u v)
      (in_each_below (open_arcs_from t t.count) t.count u.0 (Arc u v) o.place.0 (in_each_below (arc_list u.0) t.count v.0 (Arc u v) o.place.1 here))

  -- ---- in column order

  alone : (p : Place) → AllPairs ComesBefore (open_at t p)
  alone p = go (is_open (column_at t p))
    where
      go : (b : Bool) → AllPairs ComesBefore (if b then p ∷ [] else [])
      go true = pairs_one ComesBefore p
      go false = pairs_nil ComesBefore

  alone_arc : (u v : ℕ) → AllPairs ComesBefore (arc_list u v)
  alone_arc u v = go (u == v)
    where
      go : (b : Bool) → AllPairs ComesBefore (if b then [] else open_at t (Arc (record { 0 = u }) (record { 0 = v })))
      go true = pairs_nil ComesBefore
      go false = alone (Arc (record { 0 = u }) (record { 0 = v }))

  -- a pair in the list from u has u as its first
  from_first : (u : ℕ) (x : Place) → Contains (open_arcs_from t t.count u) x → (v : ℕ) × (Arc (record { 0 = u }) (record { 0 = v }) ≡ x)
  from_first u x h = let b = from_each_below (arc_list u) t.count x h in (b.0, (only_arc u b.0 x b.2).2)

  ops_in_order : AllPairs ComesBefore (open_ops t t.count)
  ops_in_order = pairs_each_below ComesBefore op_list t.count (λ v. alone (Op (record { 0 = v })))
      (λ i j x y l m h k.
      let a = (only (Op (record { 0 = i })) x h).1 in
      let b = (only (Op (record { 0 = j })) y k).1 in
      subst (λ z. ComesBefore z y) a (subst (ComesBefore (Op (record { 0 = i }))) b l))

  row_in_order : (u : ℕ) → AllPairs ComesBefore (open_arcs_from t t.count u)
  row_in_order u = pairs_each_below ComesBefore (arc_list u) t.count (alone_arc u)
      (λ i j x y l m h k.
      let a = (only_arc u i x h).2 in
      let b = (only_arc u j y k).2 in
      subst (λ z. ComesBefore z y) a (subst (ComesBefore (Arc (record { 0 = u }) (record { 0 = i }))) b (inr (refl, l))))

  rows_in_order : AllPairs ComesBefore (each_below (open_arcs_from t t.count) t.count)
  rows_in_order = pairs_each_below ComesBefore (open_arcs_from t t.count) t.count row_in_order
      (λ i j x y l m h k.
      let a = from_first i x h in
      let b = from_first j y k in
      subst (λ z. ComesBefore z y) a.1 (subst (ComesBefore (Arc (record { 0 = i }) (record { 0 = a.0 }))) b.1 (inl l)))

  pub open_in_order : AllPairs ComesBefore (open_places t)
  open_in_order = pairs_append ComesBefore (open_ops t t.count) (each_below (open_arcs_from t t.count) t.count) ops_in_order rows_in_order
      (λ x y h k.
      let a = from_each_below op_list t.count x h in
      let e = (only (Op (record { 0 = a.0 })) x a.2).1 in
      let b = from_each_below (open_arcs_from t t.count) t.count y k in
      let f = from_first b.0 y b.2 in
      subst (λ z. ComesBefore z y) e (subst (ComesBefore (Op (record { 0 = a.0 }))) f.1 tt))

  -- ---- how many they are

  one_at_most : (p : Place) → length (open_at t p) ≤ 1
  one_at_most p = go (is_open (column_at t p))
    where
      go : (b : Bool) → length (if b then p ∷ [] else []) ≤ 1
      go true = omega arith
      go false = omega arith

  few_ops : (n : ℕ) → length (open_ops t n) ≤ n
  few_ops zero = omega arith
  few_ops (suc n) = omega (arith, few_ops n, one_at_most (Op (record { 0 = n })), length-append (open_ops t n) (op_list n))

  one_arc_at_most : (u v : ℕ) → length (arc_list u v) ≤ 1
  one_arc_at_most u v = go (u == v)
    where
      go : (b : Bool) → length (if b then [] else open_at t (Arc (record { 0 = u }) (record { 0 = v }))) ≤ 1
      go true = omega arith
      go false = one_at_most (Arc (record { 0 = u }) (record { 0 = v }))

  few_from : (n u : ℕ) → length (each_below (arc_list u) n) ≤ n
  few_from zero u = omega arith
  few_from (suc n) u = omega (arith, few_from n u, one_arc_at_most u n, length-append (each_below (arc_list u) n) (arc_list u n))

  not_itself : (u : ℕ) → length (arc_list u u) ≡ 0
  not_itself u = rw (eq-eqb u u refl) refl

  -- the pair of u with itself is left out
  fewer_from : (n u : ℕ) → u < n → length (each_below (arc_list u) n) + 1 ≤ n
  fewer_from zero u l = absurd (omega arith)
  fewer_from (suc n) u l = elim (cases_eq u n) [
    | inl same ↦
        let none : length (arc_list u n) ≡ 0 = subst (λ k. length (arc_list u k) ≡ 0) same (not_itself u) in
        omega (arith, few_from n u, length-append (each_below (arc_list u) n) (arc_list u n))
    | inr other ↦ omega (arith, fewer_from n u (omega arith), one_arc_at_most u n, length-append (each_below (arc_list u) n) (arc_list u n))
  ]

  few_rows : (n m : ℕ) → m ≤ n → length (each_below (open_arcs_from t n) m) + m ≤ m * n
  few_rows n zero l = omega arith
  few_rows n (suc m) l =
      let one_more : suc m * n ≡ m * n + n = grind arith in
      omega (arith, few_rows n m (omega arith), fewer_from n m (omega arith), length-append (each_below (open_arcs_from t n) m) (open_arcs_from t n m))

  pub few_open : length (open_places t) ≤ t.count * t.count
  few_open = omega (arith, few_ops t.count, few_rows t.count t.count (omega arith), length-append (open_ops t t.count) (each_below (open_arcs_from t t.count) t.count))
