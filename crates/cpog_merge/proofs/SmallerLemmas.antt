-- The smaller sets of the classes, summed over all classes, are few.
use Rattle.std.proofs.Common.{◌≡◌, ◌≢◌, ℕ, zero, suc, ◌+◌, ◌-◌, ◌*◌, ◌/◌, ◌<◌, ◌≤◌, ◌==◌, Bool, true, false, ◌&&◌, not, cond, if◌then◌else◌, IsTrue, List, [], ◌∷◌, ◌++◌, length, map, get_or, refl, sym, ap, ap₂, subst, ◌∙◌, inl, inr, arith, add-zero}
use Rattle.std.specs.List.{All, AllPairs, Contains, count_by, sum_by}
use Rattle.std.specs.Ordering.{nat_cmp}
use Rattle.std.specs.Cmp.{nat_cmp_total, unsigned_tied}
use Rattle.std.specs.FinSet as set
use Rattle.std.proofs.lemmas.Bool.{cases_Bool, cases_eq, both_ways, ne_eqb, eq-eqb, and_parts}
use Rattle.std.proofs.lemmas.List.Elements.{All-get_or, All-contains, All-head, All-tail, All-map, Contains-append_left, Contains-append_right}
use Rattle.std.proofs.lemmas.List.{length-map}
use Rattle.std.proofs.lemmas.List.Sums.{sum_by-cons, sum_by-append, sum_by-le-sum_by}
use Rattle.std.proofs.Math.Nat.{mul-le-mul_right}
use Rattle.cpog_base.specs.Column.{is_one, is_zero}
use Rattle.cpog_defs.specs.declared.types.Bit3.{Bit3}
use Rattle.cpog_defs.specs.declared.types.Bit3.TheVariants.{Zero, One, Free}
use Rattle.cpog_defs.specs.declared.types.Place.{Place}
use Rattle.cpog_defs.specs.declared.types.Place.TheVariants.{Op, Arc}
use Rattle.cpog_defs.specs.Orders.{Set, Order, IsOrder, IsOrderOf, has, is_before, is_covered, each_below, arc_of, covering_pairs}
use Rattle.cpog_defs.specs.Graphs.{IsPlace}
use Rattle.cpog_defs.specs.Columns.{entry, column}
use Rattle.order_reduce.proofs.PairCount.{few_covers}
use Rattle.cpog_merge.specs.Columns.{Columns, column_at, count_of, AreColumnsOf}
use Rattle.cpog_merge.specs.Classes.{ComesBefore, IsClass, Classes, AreClassesOf}
use Rattle.gate_core.specs.Columns.{smaller_set}
use Rattle.cpog_merge.proofs.ListLemmas.{contains_head, in_each_below, sum_of_some, sum_below, sum_by_bound, sum_by_swap}

-- ---- all places

abbrev op_place : ℕ → List Place
op_place v = Op (record { 0 = v }) ∷ []

abbrev arc_place : ℕ → ℕ → List Place
arc_place u v = if u == v then [] else Arc (record { 0 = u }) (record { 0 = v }) ∷ []

abbrev arcs_from : ℕ → ℕ → List Place
arcs_from n u = each_below (arc_place u) n

abbrev places : ℕ → List Place
places n = each_below op_place n ++ each_below (arcs_from n) n

is_there : (n : ℕ) (p : Place) → IsPlace n p → Contains (places n) p
is_there n (Op v) l = Contains-append_left (each_below op_place n) (each_below (arcs_from n) n) (Op v) (in_each_below op_place n v.0 (Op v) l (contains_head (Op v) []))
is_there n (Arc u v) l =
    let one : Contains (arc_place u.0 v.0) (Arc u v) = rw (ne_eqb u.0 v.0 l.2) (contains_head (Arc u v) []) in
    Contains-append_right (each_below op_place n) (each_below (arcs_from n) n) (Arc u v)
    (in_each_below (arcs_from n) n u.0 (Arc u v) l.0 (in_each_below (arc_place u.0) n v.0 (Arc u v) l.1 one))

pub not_itself : (p : Place) → ComesBefore p p → ⊥
not_itself (Op v) l = absurd (omega arith)
not_itself (Arc u v) l = elim l [ inl first ↦ absurd (omega arith) | inr second ↦ absurd (omega (arith, second.1)) ]

-- ---- the smaller set of a column has at most these members: the scenarios that lack the operation, or where the pair is covering

abbrev member : Place → Order → ℕ
member (Op v) o = cond (has o v.0) 0 1
member (Arc u v) o = cond (is_covered o u.0 v.0) 1 0

counted : (q : Bit3 → Bool) (f : Order → Bit3) (g : Order → ℕ) (orders : List Order) → ((o : Order) → cond (q (f o)) 1 0 ≤ g o) → count_by q (map f orders) ≤ sum_by g orders
counted q f g [] h = omega arith
counted q f g (o ∷ orders) h = omega (arith, sum_by-cons (λ b. cond (q b) 1 0) (f o) (map f orders), sum_by-cons g o orders, h o, counted q f g orders h)

lacks : (b : Bool) → cond (is_zero (if b then One else Zero)) 1 0 ≤ cond b 0 1
lacks true = omega arith
lacks false = omega arith

covers : (both cov bef : Bool) → cond (is_one (if both then (if cov then One else (if bef then Free else Zero)) else Free)) 1 0 ≤ cond cov 1 0
covers true true bef = omega arith
covers true false true = omega arith
covers true false false = omega arith
covers false true bef = omega arith
covers false false bef = omega arith

few_members : (orders : List Order) (p : Place) → smaller_set (column orders p) ≤ sum_by (member p) orders
few_members orders (Op v) =
    let few : count_by is_zero (column orders (Op v)) ≤ sum_by (member (Op v)) orders = counted is_zero (entry (Op v)) (member (Op v)) orders (λ o. lacks (has o v.0)) in
    omega arith
few_members orders (Arc u v) =
    let few : count_by is_one (column orders (Arc u v)) ≤ sum_by (member (Arc u v)) orders =
    counted is_one (entry (Arc u v)) (member (Arc u v)) orders (λ o. covers (has o u.0 && has o v.0) (is_covered o u.0 v.0) (is_before o u.0 v.0)) in
    omega arith

-- ---- what one scenario adds to the smaller sets

-- how many numbers below n fail
abbrev failing : (ℕ → Bool) → ℕ → ℕ
failing p zero = 0
failing p (suc n) = failing p n + cond (p n) 0 1

failing_same : (p q : ℕ → Bool) (n : ℕ) → ((i : ℕ) → i < n → p i ≡ q i) → failing p n ≡ failing q n
failing_same p q zero h = refl
failing_same p q (suc n) h = ap₂ (λ a b. a + cond b 0 1) (failing_same p q n (λ i l. h i (omega arith))) (h n (omega arith))

-- the members of a set and the other numbers below n are at most n
failing_few : (n : ℕ) (s : Set) → ((v : ℕ) → IsTrue (set.contains s v) → v < n) → failing (set.contains s) n + set.len s ≤ n
failing_few zero s below =
    let none : s ≡ set.empty = set.same_set nat_cmp_total set.nat_cmp-IsAntisymmetric s set.empty
    (λ v. elim (cases_Bool (set.contains s v)) [ inl t ↦ absurd (let l = below v t in omega arith) | inr f ↦ f ∙ sym (set.contains-empty nat_cmp v) ]) in
    let size : set.len s ≡ 0 = ap set.len none ∙ set.len-empty nat_cmp in
    omega arith
failing_few (suc n) s below = elim (cases_Bool (set.contains s n)) [
  | inl t ↦
      let rest : Set = set.remove s n in
      let size : set.len rest ≡ set.len s - 1 = set.len-remove nat_cmp_total s n ∙ rw t refl in
      let without : (v : ℕ) → set.contains rest v ≡ (not (v == n) && set.contains s v) = λ v. set.contains-remove nat_cmp_total s n v ∙ ap (λ b. not b && set.contains s v) (unsigned_tied v n) in
      let below_n : (v : ℕ) → IsTrue (set.contains rest v) → v < n =
      λ v k. let both = and_parts _ _ (sym (without v) ∙ k) in let l = below v both.1 in elim (cases_eq v n) [
        | inl same ↦ absurd (both_ways _ (ap not (eq-eqb v n same)) both.0)
        | inr other ↦ omega arith
      ] in
      let same : failing (set.contains rest) n ≡ failing (set.contains s) n =
      failing_same (set.contains rest) (set.contains s) n (λ i l. without i ∙ rw (ne_eqb i n (λ e. absurd (omega arith))) refl) in
      rw t (omega (arith, failing_few n rest below_n))
  | inr f ↦
      let below_n : (v : ℕ) → IsTrue (set.contains s v) → v < n =
      λ v k. let l = below v k in elim (cases_eq v n) [ inl same ↦ absurd (both_ways _ f (subst (λ w. IsTrue (set.contains s w)) same k)) | inr other ↦ omega arith ] in
      rw f (omega (arith, failing_few n s below_n))
]

ops_failing : (o : Order) (n : ℕ) → sum_by (λ p. member p o) (each_below op_place n) ≡ failing (has o) n
ops_failing o zero = refl
ops_failing o (suc n) =
    sum_by-append (λ p. member p o) (each_below op_place n) (op_place n)
    ∙ ap₂ (λ a b. a + b) (ops_failing o n) (sum_by-cons (λ p. member p o) (Op (record { 0 = n })) [] ∙ add-zero (cond (has o n) 0 1))

one_arc : (o : Order) (u v : ℕ) → sum_by (λ p. member p o) (arc_place u v) ≤ length (if is_covered o u v then arc_of u v ∷ [] else [])
one_arc o u v = elim (cases_Bool (u == v)) [
  | inl t ↦ rw t (omega arith)
  | inr f ↦ rw f (alone (is_covered o u v))
]
  where
    alone : (b : Bool) → 0 + cond b 1 0 ≤ length (if b then arc_of u v ∷ [] else [])
    alone true = omega arith
    alone false = omega arith

arcs_covering : (o : Order) → sum_by (λ p. member p o) (each_below (arcs_from o.count) o.count) ≤ length (covering_pairs o)
arcs_covering o =
    sum_below (λ p. member p o) (arcs_from o.count) (λ u. each_below (λ v. if is_covered o u v then arc_of u v ∷ [] else []) o.count) o.count
    (λ u. sum_below (λ p. member p o) (arc_place u) (λ v. if is_covered o u v then arc_of u v ∷ [] else []) o.count (one_arc o u))

at_most : (a b k n : ℕ) → a + k ≤ n → n ≤ 64 → b ≤ k * k / 4 → a + b ≤ 1024
at_most a b k n h few quarter =
    let square : k * k ≤ 64 * k = mul-le-mul_right k (omega arith) in
    omega arith

in_few : (o : Order) → IsOrder o → o.count ≤ 64 → sum_by (λ p. member p o) (places o.count) ≤ 1024
in_few o ord few =
    let a : sum_by (λ p. member p o) (each_below op_place o.count) + set.len o.ops ≤ o.count = rw (ops_failing o o.count) (failing_few o.count o.ops ord.below) in
    let b : sum_by (λ p. member p o) (each_below (arcs_from o.count) o.count) ≤ set.len o.ops * set.len o.ops / 4 = omega (arith, arcs_covering o, few_covers o ord) in
    rw (sum_by-append (λ p. member p o) (each_below op_place o.count) (each_below (arcs_from o.count) o.count))
    (at_most _ _ (set.len o.ops) o.count a few b)

-- ---- joining the members of smaller sets

ones_and_zeros : (column : List Bit3) → count_by is_one column + count_by is_zero column ≤ length column
ones_and_zeros [] = omega arith
ones_and_zeros (x ∷ xs) = omega (arith, sum_by-cons (λ b. cond (is_one b) 1 0) x xs, sum_by-cons (λ b. cond (is_zero b) 1 0) x xs, ones_and_zeros xs, not_both x)
  where
    not_both : (b : Bit3) → cond (is_one b) 1 0 + cond (is_zero b) 1 0 ≤ 1
    not_both One = omega arith
    not_both Zero = omega arith
    not_both Free = omega arith

-- a smaller set of at most 32 is joined in at most 31 gates for 32 members
joins : (columns : List (List Bit3)) → All (λ c. length c ≤ 64) columns → 32 * sum_by (λ c. smaller_set c - 1) columns ≤ 31 * sum_by smaller_set columns
joins [] h = omega arith
joins (c ∷ cs) h =
    let short : length c ≤ 64 = All-head (λ c. length c ≤ 64) c cs h in
    let half : smaller_set c ≤ 32 = omega (arith, ones_and_zeros c) in
    omega (arith, sum_by-cons (λ c. smaller_set c - 1) c cs, sum_by-cons smaller_set c cs, joins cs (All-tail (λ c. length c ≤ 64) c cs h))

-- ---- all classes

module _ (orders : List Order) (t : Columns) (list : Classes) (alike : All (IsOrderOf (count_of orders)) orders) (few : count_of orders ≤ 64)
    (are : AreColumnsOf orders t) (classes : AreClassesOf t list) where
  n : ℕ
  n = count_of orders

  in_scenario : (o : Order) → Contains orders o → sum_by (λ p. member p o) (places (count_of orders)) ≤ 1024
  in_scenario o there =
      let is = All-contains (IsOrderOf (count_of orders)) orders o alike there in
      subst (λ k. sum_by (λ p. member p o) (places k) ≤ 1024) is.count_is (in_few o is.order (rw is.count_is few))

  over_all : sum_by (λ p. smaller_set (column orders p)) (places (count_of orders)) ≤ length orders * 1024
  over_all =
      let a = sum_by-le-sum_by (λ p. smaller_set (column orders p)) (λ p. sum_by (member p) orders) (places (count_of orders)) (few_members orders) in
      let b = sum_by_swap (λ o p. member p o) orders (places (count_of orders)) in
      let d = sum_by_bound (λ o. sum_by (λ p. member p o) (places (count_of orders))) 1024 orders in_scenario in
      omega arith

  is_place : (k : ℕ) (d : Place) → k < length list.places → IsPlace (count_of orders) (get_or list.places k d)
  is_place k d l = subst (λ m. IsPlace m (get_or list.places k d)) are.count (All-get_or (IsClass t) list.places k d l classes.places.each).is_open.place

  over_columns : (ps : List Place) → All (IsPlace (count_of orders)) ps → sum_by smaller_set (map (column_at t) ps) ≡ sum_by (λ p. smaller_set (column orders p)) ps
  over_columns [] h = refl
  over_columns (p ∷ ps) h =
      let here : column_at t p ≡ column orders p = are.columns p (h zero p (omega arith)) in
      sum_by-cons smaller_set (column_at t p) (map (column_at t) ps)
      ∙ ap₂ (λ a b. a + b) (ap smaller_set here) (over_columns ps (λ k d l. h (suc k) d (omega arith)))
      ∙ sym (sum_by-cons (λ p. smaller_set (column orders p)) p ps)

  pub smaller_sets_lem : sum_by smaller_set list.columns ≤ length orders * 1024
  smaller_sets_lem =
      let different : AllPairs (λ x y. x ≢ y) list.places =
      λ i j d l m. λ e. not_itself (get_or list.places j d) (subst (λ p. ComesBefore p (get_or list.places j d)) e (classes.places.in_order i j d l m)) in
      let within : All (Contains (places (count_of orders))) list.places = λ k d l. is_there (count_of orders) (get_or list.places k d) (is_place k d l) in
      let some = sum_of_some (λ p. smaller_set (column orders p)) list.places (places (count_of orders)) different within in
      rw (classes.columns, over_columns list.places is_place) (omega (arith, some, over_all))

  column_size : length orders ≤ 64 → All (λ c. length c ≤ 64) list.columns
  column_size short = subst (All (λ c. length c ≤ 64)) (sym classes.columns) (All-map (λ c. length c ≤ 64) (column_at t) list.places
      (λ k d l. rw (are.columns (get_or list.places k d) (is_place k d l)) (omega (arith, length-map orders (entry (get_or list.places k d))))))

  pub joining_lem : length orders ≤ 64 → sum_by (λ c. smaller_set c - 1) list.columns ≤ 63488
  joining_lem short =
      let joined = joins list.columns (column_size short) in
      omega (arith, smaller_sets_lem)
