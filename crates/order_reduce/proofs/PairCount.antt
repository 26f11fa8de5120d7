-- The covered pairs of an order are at most a quarter of the square of its operations.
use Rattle.std.proofs.Common.{◌≡◌, ℕ, zero, suc, ◌+◌, ◌*◌, ◌/◌, ◌<◌, ◌≤◌, ◌==◌, Bool, true, false, ◌&&◌, ◌||◌, cond, if◌then◌else◌, nat_lt, IsTrue, List, [], ◌∷◌, length, refl, sym, ap, ◌∙◌, inl, inr, arith, length-append}
use Rattle.std.proofs.lemmas.Bool.{cases_Bool, both_ways, or_cases, lt-ltb, le-ltb, false_from_ne_true}
use Rattle.std.proofs.lemmas.Bool.Decides.{nat_tests}
use Rattle.std.specs.Ordering.{nat_cmp}
use Rattle.std.specs.Cmp.{nat_cmp_total, unsigned_tied}
use Rattle.std.specs.FinSet as set
use Rattle.cpog_defs.specs.Walks.{IsCovered}
use Rattle.cpog_defs.specs.Orders.{Set, Order, IsOrder, is_before, is_covered, each_below, arc_of, covering_pairs}
use Rattle.order_reduce.proofs.CoveredLemmas.{covered_tells}
use Rattle.order_reduce.proofs.Mantel.{degree, degree-nil, degree-cons, edges, edges-nil, edges-cons, few_edges}

-- the sum of f below n
abbrev total : ℕ → (ℕ → ℕ) → ℕ
total zero f = 0
total (suc n) f = total n f + f n

total-add : (n : ℕ) (f g : ℕ → ℕ) → total n (λ i. f i + g i) ≡ total n f + total n g
total-add zero f g = refl
total-add (suc n) f g = omega (arith, total-add n f g)

total-same : (n : ℕ) (f g : ℕ → ℕ) → ((i : ℕ) → f i ≡ g i) → total n f ≡ total n g
total-same zero f g h = refl
total-same (suc n) f g h = omega (arith, total-same n f g h, h n)

total-none : (n : ℕ) (f : ℕ → ℕ) → ((i : ℕ) → f i ≡ 0) → total n f ≡ 0
total-none zero f h = refl
total-none (suc n) f h = omega (arith, total-none n f h, h n)

length-each_below : {A : Type 0} (n : ℕ) (f : ℕ → List A) → length (each_below f n) ≡ total n (λ i. length (f i))
length-each_below zero f = refl
length-each_below (suc n) f = length-append (each_below f n) (f n) ∙ ap (λ k. k + length (f n)) (length-each_below n f)

-- those below n that pass
abbrev present : (ℕ → Bool) → ℕ → List ℕ
present p zero = []
present p (suc n) = if p n then n ∷ present p n else present p n

module _ (p : ℕ → Bool) (R : ℕ → ℕ → Bool) (first : (u v : ℕ) → IsTrue (R u v) → IsTrue (p u)) (second : (u v : ℕ) → IsTrue (R u v) → IsTrue (p v))
    (one_way : (u v : ℕ) → IsTrue (R u v) → IsTrue (R v u) → ⊥) where
  near : ℕ → ℕ → Bool
  near u v = R u v || R v u

  of : ℕ → ℕ → ℕ
  of u v = cond (R u v) 1 0

  absent_first : (u v : ℕ) → p u ≡ false → R u v ≡ false
  absent_first u v h = false_from_ne_true (R u v) (λ t. both_ways _ h (first u v t))

  absent_second : (u v : ℕ) → p v ≡ false → R u v ≡ false
  absent_second u v h = false_from_ne_true (R u v) (λ t. both_ways _ h (second u v t))

  both_parts : (a b : Bool) → (IsTrue a → IsTrue b → ⊥) → cond a 1 0 + cond b 1 0 ≡ cond (b || a) 1 0
  both_parts true true h = absurd (h refl refl)
  both_parts true false h = refl
  both_parts false true h = refl
  both_parts false false h = refl

  at_degree : (x n : ℕ) → total n (λ u. cond (near x u) 1 0) ≡ degree near x (present p n)
  unfolding near
  at_degree x zero = sym (degree-nil near x)
  at_degree x (suc n) = elim (cases_Bool (p n)) [
    | inl t ↦ rw (t, degree-cons near x n (present p n)) (omega (arith, at_degree x n))
    | inr f ↦ rw (f, absent_second x n f, absent_first n x f) (omega (arith, at_degree x n))
  ]

  no_pair : (n : ℕ) → R n n ≡ false
  no_pair n = false_from_ne_true (R n n) (λ t. one_way n n t t)

  square : ℕ → ℕ
  square n = total n (λ u. total n (λ v. of u v))

  -- the rows and the columns of n
  grown : (n : ℕ) → square (suc n) ≡ square n + total n (λ u. cond (near n u) 1 0)
  unfolding square of near
  grown n =
      let a : total n (λ u. total n (λ v. of u v) + of u n) ≡ square n + total n (λ u. of u n) = total-add n (λ u. total n (λ v. of u v)) (λ u. of u n) in
      let b : total n (λ u. of u n + of n u) ≡ total n (λ u. of u n) + total n (λ u. of n u) = total-add n (λ u. of u n) (λ u. of n u) in
      let d : total n (λ u. of u n + of n u) ≡ total n (λ u. cond (near n u) 1 0) = total-same n _ _ (λ u. both_parts (R u n) (R n u) (one_way u n)) in
      let e : of n n ≡ 0 = rw (no_pair n) refl in
      omega arith

  counted : (n : ℕ) → square n ≡ edges near (present p n)
  unfolding square near
  counted zero = sym (edges-nil near)
  counted (suc n) = grown n ∙ elim (cases_Bool (p n)) [
    | inl t ↦ rw (t, edges-cons near n (present p n)) (omega (arith, counted n, at_degree n n))
    | inr f ↦
        let none : total n (λ u. cond (near n u) 1 0) ≡ 0 = total-none n _ (λ u. rw (absent_first n u f, absent_second u n f) refl) in
        rw f (omega (arith, counted n))
  ]

-- ---- how many operations there are

abbrev upto : ℕ → Set → Set
upto zero s = set.empty
upto (suc n) s = if set.contains s n then set.insert (upto n s) n else upto n s

with_n : (v n : ℕ) (q : Bool) → (v ≡ n → q ≡ true) → ((v == n) || (nat_lt v n && q)) ≡ (nat_lt v (suc n) && q)
with_n v n q h = grind (arith, nat_tests)

without_n : (v n : ℕ) (q : Bool) → (v ≡ n → q ≡ false) → (nat_lt v n && q) ≡ (nat_lt v (suc n) && q)
without_n v n q h = grind (arith, nat_tests)

in_upto : (n : ℕ) (s : Set) (v : ℕ) → set.contains (upto n s) v ≡ (nat_lt v n && set.contains s v)
in_upto zero s v = set.contains-empty nat_cmp v ∙ rw (le-ltb v 0 (omega arith)) refl
in_upto (suc n) s v = elim (cases_Bool (set.contains s n)) [
  | inl t ↦ rw (t, set.contains-insert nat_cmp_total (upto n s) n v, in_upto n s v, unsigned_tied v n) (with_n v n (set.contains s v) (λ e. rw e t))
  | inr f ↦ rw (f, in_upto n s v) (without_n v n (set.contains s v) (λ e. rw e f))
]

len-upto : (n : ℕ) (s : Set) → set.len (upto n s) ≡ length (present (set.contains s) n)
len-upto zero s = set.len-empty nat_cmp
len-upto (suc n) s = elim (cases_Bool (set.contains s n)) [
  | inl t ↦ rw (t, set.len-insert nat_cmp_total (upto n s) n, in_upto n s n, le-ltb n n (omega arith)) (omega (arith, len-upto n s))
  | inr f ↦ rw f (len-upto n s)
]

whole : (n : ℕ) (s : Set) → ((v : ℕ) → IsTrue (set.contains s v) → v < n) → upto n s ≡ s
whole n s below = set.same_set nat_cmp_total set.nat_cmp-IsAntisymmetric _ _ (λ v. in_upto n s v ∙ all v)
  where
    all : (v : ℕ) → (nat_lt v n && set.contains s v) ≡ set.contains s v
    all v = elim (cases_Bool (set.contains s v)) [
      | inl t ↦ rw (lt-ltb v n (below v t)) refl
      | inr f ↦ rw f (with_false (nat_lt v n))
    ]
      where
        with_false : (b : Bool) → (b && false) ≡ false
        with_false true = refl
        with_false false = refl

-- ---- the covering pairs

module _ (o : Order) (ord : IsOrder o) where
  R : ℕ → ℕ → Bool
  R u v = is_covered o u v

  tells : (u v : ℕ) → IsTrue (R u v) → IsCovered (is_before o) u v
  unfolding R
  tells u v h = covered_tells o ord u v h

  first : (u v : ℕ) → IsTrue (R u v) → IsTrue (set.contains o.ops u)
  first u v h = ord.first_kept u v (tells u v h).is_before

  second : (u v : ℕ) → IsTrue (R u v) → IsTrue (set.contains o.ops v)
  second u v h = ord.second_kept u v (tells u v h).is_before

  one_way : (u v : ℕ) → IsTrue (R u v) → IsTrue (R v u) → ⊥
  one_way u v h k = ord.strict.irreflexive u (ord.strict.transitive u v u (tells u v h).is_before (tells v u k).is_before)

  no_short : (a b d : ℕ) → IsTrue (R a b) → IsTrue (R b d) → IsTrue (R a d) → ⊥
  no_short a b d x y z = (tells a d z).none_between b (tells a b x).is_before (tells b d y).is_before

  no_round : (a b d : ℕ) → IsTrue (R a b) → IsTrue (R b d) → IsTrue (R d a) → ⊥
  no_round a b d x y z =
      ord.strict.irreflexive a (ord.strict.transitive a d a (ord.strict.transitive a b d (tells a b x).is_before (tells b d y).is_before) (tells d a z).is_before)

  beside : ℕ → ℕ → Bool
  beside = near (set.contains o.ops) R first second one_way

  symmetric : (u v : ℕ) → beside u v ≡ beside v u
  unfolding beside near
  symmetric u v = flip (R u v) (R v u)
    where
      flip : (x y : Bool) → (x || y) ≡ (y || x)
      flip true true = refl
      flip true false = refl
      flip false true = refl
      flip false false = refl

  no_triangle : (u v w : ℕ) → IsTrue (beside u v) → IsTrue (beside v w) → IsTrue (beside u w) → ⊥
  unfolding beside near
  no_triangle u v w a b d = elim (or_cases _ _ a) [
    | inl uv ↦ elim (or_cases _ _ b) [
      | inl vw ↦ elim (or_cases _ _ d) [ inl uw ↦ no_short u v w uv vw uw | inr wu ↦ no_round u v w uv vw wu ]
      | inr wv ↦ elim (or_cases _ _ d) [ inl uw ↦ no_short u w v uw wv uv | inr wu ↦ no_short w u v wu uv wv ]
    ]
    | inr vu ↦ elim (or_cases _ _ b) [
      | inl vw ↦ elim (or_cases _ _ d) [ inl uw ↦ no_short v u w vu uw vw | inr wu ↦ no_short v w u vw wu vu ]
      | inr wv ↦ elim (or_cases _ _ d) [ inl uw ↦ no_round v u w vu uw wv | inr wu ↦ no_short w v u wv vu wu ]
    ]
  ]

  one_if : {A : Type 0} (b : Bool) (x : A) → length (if b then x ∷ [] else []) ≡ cond b 1 0
  one_if true x = refl
  one_if false x = refl

  as_square : length (covering_pairs o) ≡ square (set.contains o.ops) R first second one_way o.count
  unfolding square of R
  as_square =
      length-each_below o.count _
      ∙ total-same o.count _ _ (λ u. length-each_below o.count _ ∙ total-same o.count _ _ (λ v. one_if (is_covered o u v) (arc_of u v)))

  quarter : (k n : ℕ) → 4 * k ≤ n * n → k ≤ n * n / 4
  quarter k n h = omega arith

  pub few_covers : length (covering_pairs o) ≤ set.len o.ops * set.len o.ops / 4
  unfolding beside
  few_covers =
      let xs : List ℕ = present (set.contains o.ops) o.count in
      let size : length xs ≡ set.len o.ops = sym (len-upto o.count o.ops) ∙ ap set.len (whole o.count o.ops ord.below) in
      let same : length (covering_pairs o) ≡ edges beside xs = as_square ∙ counted (set.contains o.ops) R first second one_way o.count in
      let few : 4 * edges beside xs ≤ length xs * length xs = few_edges beside symmetric no_triangle xs in
      rw (same, ← size) (quarter (edges beside xs) (length xs) few)
