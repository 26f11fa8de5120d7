-- Lists that are put together by number: how their texts are told, and what is among them.
use Rattle.std.proofs.Common.{◌≡◌, ℕ, zero, suc, ◌<◌, List, [], ◌∷◌, ◌++◌, refl, sym, ap, ◌∙◌, ◌⊎◌, inl, inr, arith, append_assoc, subst}
use Rattle.std.specs.List.{flat_map}
use Rattle.std.proofs.lemmas.Bool.{cases_lt}
use Rattle.std.proofs.lemmas.List.Concat.{flat_map-append}
use Rattle.cpog_defs.specs.Orders.{each_below}
use Rattle.line_text.specs.Lines.{text_of}
use Rattle.line_text.proofs.TellingLemmas.{heads}
use Rattle.netlist_verilog.proofs.BelowLemmas.{below_suc}

pub flat_below : {X : Type 0} (h : X → List ℕ) (f : ℕ → List X) (n : ℕ) → flat_map h (each_below f n) ≡ each_below (λ k. flat_map h (f k)) n
flat_below h f zero = refl
flat_below h f (suc n) = flat_map-append h (each_below f n) (f n) ∙ ap (λ (x : List ℕ). x ++ flat_map h (f n)) (flat_below h f n)

pub text_below : (f : ℕ → List (List ℕ)) (n : ℕ) → text_of (each_below f n) ≡ each_below (λ k. text_of (f k)) n
text_below f n = flat_below (λ l. l ++ 10 ∷ []) f n

pub same_below : {X : Type 0} (f g : ℕ → List X) (n : ℕ) → ((k : ℕ) → f k ≡ g k) → each_below f n ≡ each_below g n
same_below f g zero h = refl
same_below {X} f g (suc n) h = ap (λ (x : List X). x ++ f n) (same_below f g n h) ∙ ap (λ (x : List X). each_below g n ++ x) (h n)

-- so many pieces, each of which tells its value
pub below_told : (f g : ℕ → List ℕ) (P : ℕ → Type 0) (n : ℕ) → ((k : ℕ) → k < n → (x y : List ℕ) → f k ++ x ≡ g k ++ y → P k × (x ≡ y))
    → (x y : List ℕ) → each_below f n ++ x ≡ each_below g n ++ y → ((k : ℕ) → k < n → P k) × (x ≡ y)
below_told f g P zero told x y e = (λ k lt. absurd (omega arith), e)
below_told f g P (suc n) told x y e =
    let e' : each_below f n ++ (f n ++ x) ≡ each_below g n ++ (g n ++ y) = sym (append_assoc (each_below f n) (f n) x) ∙ e ∙ append_assoc (each_below g n) (g n) y in
    let r = below_told f g P n (λ k lt. told k (omega arith)) (f n ++ x) (g n ++ y) e' in
    let s = told n (omega arith) x y r.1 in
    (below_suc P n r.0 s.0, s.1)

-- of more pieces the first ones come first
more_pieces : (g : ℕ → List ℕ) (n m : ℕ) (y : List ℕ) → n < m → (z : List ℕ) × (each_below g m ++ y ≡ each_below g n ++ (g n ++ z))
more_pieces g n zero y lt = absurd (omega arith)
more_pieces g n (suc m) y lt = elim (cases_lt n m) [
  | inl l ↦ (let r = more_pieces g n m (g m ++ y) l in (r.0, append_assoc (each_below g m) (g m) y ∙ r.1))
  | inr h ↦ (let e : m ≡ n = omega arith in (y, append_assoc (each_below g m) (g m) y ∙ ap (λ k. each_below g k ++ (g k ++ y)) e))
]

-- pieces that all begin with one byte, up to an end that begins with another: there are as many of them
pub count_told : (f g : ℕ → List ℕ) (P : ℕ → Type 0) (b c : ℕ) (n m : ℕ) → (b ≡ c → ⊥) →
    ((k : ℕ) (x : List ℕ) → (r : List ℕ) × (f k ++ x ≡ b ∷ r)) →
    ((k : ℕ) (x : List ℕ) → (r : List ℕ) × (g k ++ x ≡ b ∷ r))
    → ((k : ℕ) → k < n → k < m → (x y : List ℕ) → f k ++ x ≡ g k ++ y → P k × (x ≡ y)) → (x y : List ℕ) → each_below f n ++ (c ∷ x) ≡ each_below g m ++ (c ∷ y) → n ≡ m
count_told f g P b c n m differ hf hg told x y e = elim (cases_lt n m) [
  | inl l ↦ (
      let p = more_pieces g n m (c ∷ y) l in
      let r = below_told f g P n (λ k lt. told k lt (omega arith)) (c ∷ x) (g n ++ p.0) (e ∙ p.1) in
      let q = hg n p.0 in
      absurd (differ (sym (heads c b x q.0 (r.1 ∙ q.1)))))
  | inr h ↦ elim (cases_lt m n) [
    | inl l ↦ (
        let p = more_pieces f m n (c ∷ x) l in
        let r = below_told f g P m (λ k lt. told k (omega arith) lt) (f m ++ p.0) (c ∷ y) (sym p.1 ∙ e) in
        let q = hf m p.0 in
        absurd (differ (heads b c q.0 y (sym q.1 ∙ r.1))))
    | inr h' ↦ omega arith
  ]
]

-- ---- what is among them

abbrev pub In : {X : Type 0} → X → List X → Type 0
In x [] = ⊥
In x (y ∷ ys) = (x ≡ y) ⊎ In x ys

in_left : {X : Type 0} (x : X) (xs ys : List X) → In x xs → In x (xs ++ ys)
in_left x [] ys h = absurd h
in_left x (z ∷ zs) ys h = elim h [ inl e ↦ inl e | inr t ↦ inr (in_left x zs ys t) ]

in_right : {X : Type 0} (x : X) (xs ys : List X) → In x ys → In x (xs ++ ys)
in_right x [] ys h = h
in_right x (z ∷ zs) ys h = inr (in_right x zs ys h)

in_cases : {X : Type 0} (x : X) (xs ys : List X) → In x (xs ++ ys) → In x xs ⊎ In x ys
in_cases x [] ys h = inr h
in_cases x (z ∷ zs) ys h = elim h [ inl e ↦ inl (inl e) | inr t ↦ elim (in_cases x zs ys t) [ inl l ↦ inl (inr l) | inr r ↦ inr r ] ]

pub in_below : {X : Type 0} (x : X) (f : ℕ → List X) (n k : ℕ) → k < n → In x (f k) → In x (each_below f n)
in_below x f zero k lt h = absurd (omega arith)
in_below {X} x f (suc n) k lt h = elim (cases_lt k n) [
  | inl l ↦ in_left x (each_below f n) (f n) (in_below x f n k l h)
  | inr g ↦ (let e : k ≡ n = omega arith in in_right x (each_below f n) (f n) (subst (λ i. In x (f i)) e h))
]

pub below_in : {X : Type 0} (x : X) (f : ℕ → List X) (n : ℕ) → In x (each_below f n) → (k : ℕ) × (k < n) × In x (f k)
below_in x f zero h = absurd h
below_in x f (suc n) h = elim (in_cases x (each_below f n) (f n) h) [
  | inl l ↦ (let r = below_in x f n l in (r.0, omega (arith, r.1), r.2))
  | inr r ↦ (n, omega arith, r)
]
