-- Elements, orders and sums of lists that are made one behind the other.
use Rattle.std.proofs.Common.{◌≡◌, ◌≢◌, ℕ, zero, suc, ◌+◌, ◌-◌, ◌*◌, ◌<◌, ◌≤◌, List, [], ◌∷◌, ◌++◌, ◌⊎◌, length, get_or, refl, sym, ap, ap₂, append_assoc, add-one, ◌∙◌, subst, inl, inr, arith, length-append}
use Rattle.std.specs.List.{All, AllPairs, Contains, sum_by}
use Rattle.std.proofs.lemmas.Bool.{cases_lt, cases_eq}
use Rattle.std.proofs.lemmas.List.{get_or_append_left, get_or-append_right}
use Rattle.std.proofs.lemmas.List.Elements.{All-head, All-tail, All-contains, Contains-append_left, Contains-append_right, Contains-append_cases, Contains-get_or}
use Rattle.std.proofs.lemmas.List.Sums.{sum_by-cons, sum_by-append}
use Rattle.cpog_defs.specs.Orders.{each_below}

module _ {A : Type 0} where
  -- ---- elements

  pub contains_head : (x : A) (xs : List A) → Contains (x ∷ xs) x
  contains_head x xs = (zero, omega arith, refl)

  pub contains_tail : (y : A) (xs : List A) (x : A) → Contains xs x → Contains (y ∷ xs) x
  contains_tail y xs x h = (suc h.0, omega (arith, h.1), h.2)

  pub contains_nil : (x : A) → Contains [] x → ⊥
  contains_nil x (k, l, e) = absurd (omega arith)

  pub contains_cons : (y : A) (xs : List A) (x : A) → Contains (y ∷ xs) x → (y ≡ x) ⊎ Contains xs x
  contains_cons y xs x (zero, l, e) = inl e
  contains_cons y xs x (suc k, l, e) = inr (k, omega arith, e)

  pub contains_one : (y x : A) → Contains (y ∷ []) x → y ≡ x
  contains_one y x h = elim (contains_cons y [] x h) [ inl e ↦ e | inr n ↦ absurd (contains_nil x n) ]

  -- what stands before an element, and what stands behind it
  pub parted : (ys : List A) (x : A) → Contains ys x → (front : List A) × (back : List A) × (ys ≡ front ++ x ∷ back)
  parted [] x h = absurd (contains_nil x h)
  parted (y ∷ ys) x h = elim (contains_cons y ys x h) [
    | inl e ↦ ([], ys, ap (λ z. z ∷ ys) e)
    | inr rest ↦ let p = parted ys x rest in (y ∷ p.0, p.1, ap (λ zs. y ∷ zs) p.2)
  ]

  -- the other elements
  pub contains_other : (front : List A) (y : A) (back : List A) (x : A) → Contains (front ++ y ∷ back) x → y ≢ x → Contains (front ++ back) x
  contains_other front y back x h ne = elim (Contains-append_cases front (y ∷ back) x h) [
    | inl f ↦ Contains-append_left front back x f
    | inr b ↦ elim (contains_cons y back x b) [ inl e ↦ absurd (ne e) | inr k ↦ Contains-append_right front back x k ]
  ]

  -- ---- elements of lists one behind the other

  pub in_each_below : (f : ℕ → List A) (n i : ℕ) (x : A) → i < n → Contains (f i) x → Contains (each_below f n) x
  in_each_below f zero i x l h = absurd (omega arith)
  in_each_below f (suc n) i x l h = elim (cases_eq i n) [
    | inl same ↦ Contains-append_right (each_below f n) (f n) x (subst (λ k. Contains (f k) x) same h)
    | inr other ↦ Contains-append_left (each_below f n) (f n) x (in_each_below f n i x (omega arith) h)
  ]

  pub from_each_below : (f : ℕ → List A) (n : ℕ) (x : A) → Contains (each_below f n) x → (i : ℕ) × (i < n) × Contains (f i) x
  from_each_below f zero x h = absurd (contains_nil x h)
  from_each_below f (suc n) x h = elim (Contains-append_cases (each_below f n) (f n) x h) [
    | inl a ↦ let p = from_each_below f n x a in (p.0, omega (arith, p.1), p.2)
    | inr b ↦ (n, omega arith, b)
  ]

  -- one more list behind the others
  pub each_more : (f : ℕ → List A) (n : ℕ) (front xs ys zs : List A) → xs ≡ front ++ each_below f n → ys ≡ f n → zs ≡ xs ++ ys → zs ≡ front ++ each_below f (n + 1)
  each_more f n front xs ys zs h k l = l ∙ ap₂ (λ a b. a ++ b) h k ∙ append_assoc front (each_below f n) (f n) ∙ ap (λ m. front ++ each_below f m) (sym (add-one n))

  -- ---- order

  module _ (R : A → A → Type 0) where
    pub pairs_nil : AllPairs R []
    pairs_nil i j d l m = absurd (omega arith)

    pub pairs_one : (x : A) → AllPairs R (x ∷ [])
    pairs_one x i j d l m = absurd (omega arith)

    pub pairs_tail : (x : A) (xs : List A) → AllPairs R (x ∷ xs) → AllPairs R xs
    pairs_tail x xs h i j d l m = h (suc i) (suc j) d (omega arith) (omega arith)

    pub pairs_head : (x : A) (xs : List A) → AllPairs R (x ∷ xs) → All (R x) xs
    pairs_head x xs h k d l = h zero (suc k) d (omega arith) (omega arith)

    pub pairs_append : (xs ys : List A) → AllPairs R xs → AllPairs R ys → ((x y : A) → Contains xs x → Contains ys y → R x y) → AllPairs R (xs ++ ys)
    pairs_append xs ys h k across i j d l m =
        let size : length (xs ++ ys) ≡ length xs + length ys = length-append xs ys in
        elim (cases_lt j (length xs)) [
          | inl left ↦ rw (get_or_append_left xs ys d i (omega arith), get_or_append_left xs ys d j left) (h i j d l left)
          | inr right ↦
              let at_j : get_or (xs ++ ys) j d ≡ get_or ys (j - length xs) d = get_or-append_right xs ys (length xs) j d refl right in
              elim (cases_lt i (length xs)) [
                | inl left ↦ rw (get_or_append_left xs ys d i left, at_j)
                    (across (get_or xs i d) (get_or ys (j - length xs) d) (Contains-get_or xs i d left) (Contains-get_or ys (j - length xs) d (omega arith)))
                | inr far ↦ rw (get_or-append_right xs ys (length xs) i d refl far, at_j) (k (i - length xs) (j - length xs) d (omega arith) (omega arith))
              ]
        ]

    pub pairs_each_below : (f : ℕ → List A) (n : ℕ) → ((i : ℕ) → AllPairs R (f i)) → ((i j : ℕ) (x y : A) → i < j → j < n → Contains (f i) x → Contains (f j) y → R x y) → AllPairs R (each_below f n)
    pairs_each_below f zero each across = pairs_nil
    pairs_each_below f (suc n) each across =
        pairs_append (each_below f n) (f n) (pairs_each_below f n each (λ i j x y l m h k. across i j x y l (omega arith) h k)) (each n)
        (λ x y h k. let p = from_each_below f n x h in across p.0 n x y p.1 (omega arith) p.2 k)

    -- two lists in order with the same elements are one
    pub same_ordered : (one_way : (x y : A) → R x y → R y x → ⊥) (xs ys : List A) → AllPairs R xs → AllPairs R ys → ((z : A) → Contains xs z → Contains ys z) → ((z : A) → Contains ys z → Contains xs z) → xs ≡ ys
    same_ordered one_way [] [] h k to from = refl
    same_ordered one_way [] (y ∷ ys) h k to from = absurd (contains_nil y (from y (contains_head y ys)))
    same_ordered one_way (x ∷ xs) [] h k to from = absurd (contains_nil x (to x (contains_head x xs)))
    same_ordered one_way (x ∷ xs) (y ∷ ys) h k to from =
        let first : y ≡ x = heads in
        ap₂ (λ z zs. z ∷ zs) (sym first) (same_ordered one_way xs ys (pairs_tail x xs h) (pairs_tail y ys k) (onward first) (backward first))
      where
        heads : y ≡ x
        heads = elim (contains_cons y ys x (to x (contains_head x xs))) [
          | inl e ↦ e
          | inr in_ys ↦ elim (contains_cons x xs y (from y (contains_head y ys))) [
            | inl e ↦ sym e
            | inr in_xs ↦ absurd (one_way x y (All-contains (R x) xs y (pairs_head x xs h) in_xs) (All-contains (R y) ys x (pairs_head y ys k) in_ys))
          ]
        ]

        onward : y ≡ x → (z : A) → Contains xs z → Contains ys z
        onward first z there = elim (contains_cons y ys z (to z (contains_tail x xs z there))) [
          | inl e ↦
              let r : R z z = subst (λ a. R a z) (sym first ∙ e) (All-contains (R x) xs z (pairs_head x xs h) there) in
              absurd (one_way z z r r)
          | inr in_ys ↦ in_ys
        ]

        backward : y ≡ x → (z : A) → Contains ys z → Contains xs z
        backward first z there = elim (contains_cons x xs z (from z (contains_tail y ys z there))) [
          | inl e ↦
              let r : R z z = subst (λ a. R a z) (first ∙ e) (All-contains (R y) ys z (pairs_head y ys k) there) in
              absurd (one_way z z r r)
          | inr in_xs ↦ in_xs
        ]

  -- ---- sums

  module _ (f : A → ℕ) where
    -- different elements of a list sum to at most what all its elements sum to
    pub sum_of_some : (xs ys : List A) → AllPairs (λ x y. x ≢ y) xs → All (Contains ys) xs → sum_by f xs ≤ sum_by f ys
    sum_of_some [] ys different within = omega arith
    sum_of_some (x ∷ xs) ys different within =
        let p = parted ys x (All-head (Contains ys) x xs within) in
        let front : List A = p.0 in
        let back : List A = p.1 in
        let rest : All (Contains (front ++ back)) xs =
        λ k d l. contains_other front x back (get_or xs k d) (subst (λ zs. Contains zs (get_or xs k d)) p.2 (All-tail (Contains ys) x xs within k d l)) (pairs_head (λ x y. x ≢ y) x xs different k d l) in
        let ih : sum_by f xs ≤ sum_by f (front ++ back) = sum_of_some xs (front ++ back) (pairs_tail (λ x y. x ≢ y) x xs different) rest in
        let whole : sum_by f ys ≡ sum_by f front + (f x + sum_by f back) = ap (sum_by f) p.2 ∙ sum_by-append f front (x ∷ back) ∙ ap (λ k. sum_by f front + k) (sum_by-cons f x back) in
        omega (arith, sum_by-cons f x xs, sum_by-append f front back)

    -- lists whose elements sum to at most the lengths of others
    pub sum_below : {B : Type 0} (xs : ℕ → List A) (ys : ℕ → List B) (n : ℕ) → ((i : ℕ) → sum_by f (xs i) ≤ length (ys i)) → sum_by f (each_below xs n) ≤ length (each_below ys n)
    sum_below xs ys zero h = omega arith
    sum_below xs ys (suc n) h =
        omega (arith, sum_below xs ys n h, h n, sum_by-append f (each_below xs n) (xs n), length-append (each_below ys n) (ys n))

    pub sum_by_add : (g : A → ℕ) (xs : List A) → sum_by (λ x. f x + g x) xs ≡ sum_by f xs + sum_by g xs
    sum_by_add g [] = refl
    sum_by_add g (x ∷ xs) = omega (arith, sum_by-cons (λ x. f x + g x) x xs, sum_by-cons f x xs, sum_by-cons g x xs, sum_by_add g xs)

    pub sum_by_bound : (m : ℕ) (xs : List A) → ((x : A) → Contains xs x → f x ≤ m) → sum_by f xs ≤ length xs * m
    sum_by_bound m [] h = omega arith
    sum_by_bound m (x ∷ xs) h =
        let ih : sum_by f xs ≤ length xs * m = sum_by_bound m xs (λ y k. h y (contains_tail x xs y k)) in
        let here : f x ≤ m = h x (contains_head x xs) in
        let grows : suc (length xs) * m ≡ m + length xs * m = grind arith in
        omega (arith, sum_by-cons f x xs)

  pub sum_by_none : (xs : List A) → sum_by (λ x. 0) xs ≡ 0
  sum_by_none [] = refl
  sum_by_none (x ∷ xs) = omega (arith, sum_by-cons (λ x. 0) x xs, sum_by_none xs)

pub sum_by_same : {A : Type 0} (f g : A → ℕ) (xs : List A) → ((x : A) → f x ≡ g x) → sum_by f xs ≡ sum_by g xs
sum_by_same f g [] h = refl
sum_by_same f g (x ∷ xs) h = omega (arith, sum_by-cons f x xs, sum_by-cons g x xs, h x, sum_by_same f g xs h)

-- a sum of sums in either order
pub sum_by_swap : {A B : Type 0} (f : A → B → ℕ) (xs : List A) (ys : List B) → sum_by (λ y. sum_by (λ x. f x y) xs) ys ≡ sum_by (λ x. sum_by (f x) ys) xs
sum_by_swap f [] ys = sum_by_none ys
sum_by_swap f (x ∷ xs) ys =
    sum_by_same (λ y. sum_by (λ a. f a y) (x ∷ xs)) (λ y. f x y + sum_by (λ a. f a y) xs) ys (λ y. sum_by-cons (λ a. f a y) x xs)
    ∙ sum_by_add (f x) (λ y. sum_by (λ a. f a y) xs) ys
    ∙ ap (λ k. sum_by (f x) ys + k) (sum_by_swap f xs ys)
    ∙ sym (sum_by-cons (λ a. sum_by (f a) ys) x xs)
