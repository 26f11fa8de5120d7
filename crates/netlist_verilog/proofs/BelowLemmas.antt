-- Lists that are put together from parts: equal ones have equal parts.
use Rattle.std.proofs.Common.{◌≡◌, ℕ, zero, suc, ◌<◌, Bool, true, false, List, [], ◌∷◌, ◌++◌, map, refl, sym, ap, ap₂, ◌∙◌, inl, inr, arith, subst}
use Rattle.std.specs.List.{AllByRecursion}
use Rattle.std.proofs.lemmas.Bool.{cases_lt}
use Rattle.std.proofs.lemmas.List.{map-append, same_from_push}
use Rattle.cpog_defs.specs.Orders.{each_below}
use Rattle.line_text.proofs.TellingLemmas.{apart}

pub cons_parts : {X : Type 0} (x y : X) (xs ys : List X) → (x ∷ xs) ≡ (y ∷ ys) → (x ≡ y) × (xs ≡ ys)
cons_parts x y xs ys e = (cc, cc)

-- a first part of elements that pass, before elements that don't
pub parted : {X : Type 0} (p : X → Bool) (xs ys zs ws : List X) → AllByRecursion (λ x. p x ≡ true) xs →
    AllByRecursion (λ x. p x ≡ true) ys → AllByRecursion (λ x. p x ≡ false) zs → AllByRecursion (λ x. p x ≡ false) ws
    → xs ++ zs ≡ ys ++ ws → (xs ≡ ys) × (zs ≡ ws)
parted p [] [] zs ws hx hy hz hw e = (refl, e)
parted p [] (y ∷ ys) [] ws hx hy hz hw e = absurd cc
parted p [] (y ∷ ys) (z ∷ zs) ws hx hy hz hw e = absurd (apart (p y) (p z) hy.0 hz.0 (ap p (sym (cons_parts z y zs (ys ++ ws) e).0)))
parted p (x ∷ xs) [] zs [] hx hy hz hw e = absurd cc
parted p (x ∷ xs) [] zs (w ∷ ws) hx hy hz hw e = absurd (apart (p x) (p w) hx.0 hw.0 (ap p (cons_parts x w (xs ++ zs) ws e).0))
parted {X} p (x ∷ xs) (y ∷ ys) zs ws hx hy hz hw e =
    let c = cons_parts x y (xs ++ zs) (ys ++ ws) e in
    let r = parted p xs ys zs ws hx.1 hy.1 hz hw c.1 in
    (ap₂ (λ (a : X) (as' : List X). a ∷ as') c.0 r.0, r.1)

-- ---- one element for each number

pub map_ones : {X Y : Type 0} (f : X → Y) (d : ℕ → X) (n : ℕ) → map f (each_below (λ k. d k ∷ []) n) ≡ each_below (λ k. f (d k) ∷ []) n
map_ones f d zero = refl
map_ones {Y = Y} f d (suc n) = map-append f (each_below (λ k. d k ∷ []) n) (d n ∷ []) ∙ ap (λ (ys : List Y). ys ++ f (d n) ∷ []) (map_ones f d n)

pub some_push : {X : Type 0} (xs : List X) (x : X) → [] ≡ xs ++ x ∷ [] → ⊥
some_push [] x e = cc
some_push (y ∷ ys) x e = cc

-- what holds below n and of n holds below n + 1
pub below_suc : (P : ℕ → Type 0) (n : ℕ) → ((k : ℕ) → k < n → P k) → P n → (k : ℕ) → k < suc n → P k
below_suc P n h last k lt = elim (cases_lt k n) [ inl l ↦ h k l | inr g ↦ (let e : n ≡ k = omega arith in subst P e last) ]

-- there are as many numbers, and each has its element
pub ones_told : {X : Type 0} (d e : ℕ → X) (m n : ℕ) → each_below (λ k. d k ∷ []) m ≡ each_below (λ k. e k ∷ []) n → (m ≡ n) × ((k : ℕ) → k < m → d k ≡ e k)
ones_told d e zero zero h = (refl, λ k lt. absurd (omega arith))
ones_told d e zero (suc n) h = absurd (some_push (each_below (λ k. e k ∷ []) n) (e n) h)
ones_told d e (suc m) zero h = absurd (some_push (each_below (λ k. d k ∷ []) m) (d m) (sym h))
ones_told d e (suc m) (suc n) h =
    let last = same_from_push (each_below (λ k. d k ∷ []) m) (each_below (λ k. e k ∷ []) n) (d m) (e n) h in
    let r = ones_told d e m n last.0 in
    (ap suc r.0, below_suc (λ k. d k ≡ e k) m r.1 (last.1 ∙ ap e (sym r.0)))

-- ---- what holds of each

pub mapped : {X Y : Type 0} (P : X → Type 0) (Q : Y → Type 0) (f : X → Y) → ((x : X) → P x → Q (f x)) → (xs : List X) → AllByRecursion P xs → AllByRecursion Q (map f xs)
mapped P Q f h [] a = tt
mapped P Q f h (x ∷ xs) a = (h x a.0, mapped P Q f h xs a.1)

-- what holds of each of the one list holds of each of the other where both are made into the same
pub carried : {X Y : Type 0} (Q : Y → Type 0) (f : X → Y) (xs ys : List X) → map f xs ≡ map f ys → AllByRecursion (λ x. Q (f x)) xs → AllByRecursion (λ y. Q (f y)) ys
carried Q f [] [] e h = tt
carried Q f [] (y ∷ ys) e h = absurd cc
carried Q f (x ∷ xs) [] e h = absurd cc
carried Q f (x ∷ xs) (y ∷ ys) e h = let c = cons_parts (f x) (f y) (map f xs) (map f ys) e in (subst Q c.0 h.0, carried Q f xs ys c.1 h.1)
