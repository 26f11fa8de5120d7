-- A closed set of scenarios has one word fewer than it has scenarios, so there is no list of distinct words.
use Rattle.std.proofs.Common.{◌≡◌, ◌≢◌, ℕ, zero, suc, ◌<◌, ◌≤◌, ◌||◌, ◌==◌, Bool, true, false, List, [], ◌∷◌, ◌++◌, length, get_or, take, nat_eq, refl, sym, ap, ◌∙◌, subst, inl, inr, arith, length-append}
use Rattle.std.specs.List.{list_any}
use Rattle.std.proofs.lemmas.Bool.{or_cases, ne_eqb, eq-eqb, cases_eq, both_ways}
use Rattle.std.proofs.lemmas.List.Folds.{list_any-append, list_any_at}
use Rattle.std.proofs.lemmas.List.{get_or_append_left, get_or-set_same, get_or-set_other, length-take-le, get_or-take}
use Rattle.std.proofs.Math.ListN.{length-set, set}
use Rattle.std.proofs.Math.Seq.{get_or-append_seam}
use Rattle.std.proofs.lemmas.Bool.Decides.{nat_tests}
use Rattle.std.proofs.lemmas.Cmp.{nat_eq_equiv}
use Rattle.std.proofs.lemmas.Map.Keys.{IsDistinct-from_apart}
use Rattle.std.proofs.lemmas.Map.Made.{length-le_from_is_member}
use Rattle.gate_core.specs.Matching.{IsMatching, IsMatchingBut, IsOwner, IsHallViolator}

-- ---- the first values of a function

listed : (ℕ → ℕ) → ℕ → List ℕ
listed f zero = []
listed f (suc n) = listed f n ++ f n ∷ []

length-listed : (f : ℕ → ℕ) (n : ℕ) → length (listed f n) ≡ n
unfolding listed
length-listed f zero = refl
length-listed f (suc n) = length-append (listed f n) (f n ∷ []) ∙ omega (arith, length-listed f n)

get-listed : (f : ℕ → ℕ) (n i d : ℕ) → i < n → get_or (listed f n) i d ≡ f i
unfolding listed
get-listed f zero i d l = absurd (omega arith)
get-listed f (suc n) i d l = elim (cases_eq i n) [
  | inl same ↦ rw same (ap (λ k. get_or (listed f n ++ f n ∷ []) k d) (sym (length-listed f n)) ∙ get_or-append_seam (listed f n) (f n) [] d)
  | inr other ↦ get_or_append_left (listed f n) _ d i (rw (length-listed f n) (omega arith)) ∙ get-listed f n i d (omega arith)
]

pub same_number : (a b : ℕ) → (a == b) ≡ true → a ≡ b
same_number a b h = grind (arith, nat_tests)

-- what is among them is a value
among_listed : (f : ℕ → ℕ) (n q : ℕ) → list_any (λ x. q == x) (listed f n) ≡ true → (i : ℕ) × (i < n) × (q ≡ f i)
unfolding listed
among_listed f zero q h = absurd (both_ways false refl h)
among_listed f (suc n) q h =
    elim (or_cases _ _ (sym (list_any-append (λ x. q == x) (listed f n) (f n ∷ [])) ∙ h)) [
      | inl a ↦ let s = among_listed f n q a in (s.0, omega (arith, s.1), s.2)
      | inr b ↦ (n, omega arith, same_number q (f n) (alone (q == f n) b))
    ]
  where
    alone : (b : Bool) → (b || false) ≡ true → b ≡ true
    alone true h = refl
    alone false h = h

-- distinct values that all stand in a list are no more than it has entries
pub pigeons : (f : ℕ → ℕ) (n : ℕ) (ys : List ℕ) → ((i j : ℕ) → i < j → j < n → f i ≢ f j) →
    ((i : ℕ) → i < n → (k : ℕ) × (k < length ys) × (f i ≡ get_or ys k 0)) → n ≤ length ys
pigeons f n ys apart stands =
    let most : length (listed f n) ≤ length ys = length-le_from_is_member nat_eq_equiv (listed f n) ys
    (IsDistinct-from_apart nat_eq (listed f n) (λ i j d before l.
    let m : j < n = omega (arith, length-listed f n) in
    rw (get-listed f n i d (omega arith), get-listed f n j d m) (ne_eqb (f i) (f j) (apart i j before m))))
    (λ q h. let s = among_listed f n q h in let p = stands s.0 s.1 in
    list_any_at (λ x. q == x) ys p.0 0 p.1 (eq-eqb q (get_or ys p.0 0) (s.2 ∙ p.2))) in
    omega (arith, most, length-listed f n)

-- ---- a closed set

module _ (may_have : ℕ → ℕ → Type 0) (top n hole : ℕ) (words other : List ℕ) (among : ℕ → Bool)
    (size : n ≤ length words) (m : IsMatchingBut may_have top n hole words) (closed : IsHallViolator may_have top n hole words among)
    (k : IsMatching may_have top n other) where
  -- the other list's words among the closed set, and these elsewhere
  word_by : Bool → ℕ → ℕ
  word_by true i = get_or other i 0
  word_by false i = get_or words i 0

  -- that, behind a word that is none
  value : ℕ → ℕ
  value zero = top
  value (suc i) = word_by (among i) i

  -- these words with one that is none at the hole
  marked : List ℕ
  marked = set (take n words) hole top

  outside : (i : ℕ) → among i ≡ false → i ≢ hole
  outside i f e = both_ways _ f (subst (λ h. among h ≡ true) (sym e) closed.has_hole)

  -- where each value stands
  stands_by : (b : Bool) (i : ℕ) → among i ≡ b → i < n → (o : ℕ) × IsOwner n hole words (word_by b i) o × (among o ≡ b)
  unfolding word_by
  stands_by true i t l = closed.owned i (get_or other i 0) l t (k.within i l) (k.had i l)
  stands_by false i f l = (i, record { within = l; other = outside i f; has = refl }, f)

  below_top : (b : Bool) (i : ℕ) → among i ≡ b → i < n → word_by b i < top
  unfolding word_by
  below_top true i t l = k.within i l
  below_top false i f l = m.within i l (outside i f)

  apart_by : (a b : Bool) (i j : ℕ) → among i ≡ a → among j ≡ b → i < j → j < n → word_by a i ≢ word_by b j
  unfolding word_by
  apart_by true true i j p q l h e = absurd (omega (arith, k.apart i j (omega arith) h e))
  apart_by false false i j p q l h e = absurd (omega (arith, m.apart i j (omega arith) h (outside i p) (outside j q) e))
  apart_by true false i j p q l h e =
      let s = stands_by true i p (omega arith) in
      let same : s.0 ≡ j = m.apart s.0 j s.1.within h s.1.other (outside j q) (s.1.has ∙ e) in
      both_ways _ (subst (λ x. among x ≡ false) (sym same) q) s.2
  apart_by false true i j p q l h e =
      let s = stands_by true j q h in
      let same : s.0 ≡ i = m.apart s.0 i s.1.within (omega arith) s.1.other (outside i p) (s.1.has ∙ sym e) in
      both_ways _ (subst (λ x. among x ≡ false) (sym same) p) s.2

  values_apart : (i j : ℕ) → i < j → j < suc n → value i ≢ value j
  unfolding value
  values_apart i zero l h e = absurd (omega arith)
  values_apart zero (suc j) l h e = absurd (omega (arith, e, below_top (among j) j refl (omega arith)))
  values_apart (suc i) (suc j) l h e = apart_by (among i) (among j) i j refl refl (omega arith) (omega arith) e

  values_stand : (i : ℕ) → i < suc n → (p : ℕ) × (p < length marked) × (value i ≡ get_or marked p 0)
  unfolding value marked
  values_stand zero l = (
    hole,
    omega (arith, length-set (take n words) hole top, length-take-le n words size, m.hole_within),
    sym (get_or-set_same (take n words) hole top 0 (omega (arith, m.hole_within, length-take-le n words size))),
  )
  values_stand (suc i) l =
      let s = stands_by (among i) i refl (omega arith) in (
        s.0,
        omega (arith, length-set (take n words) hole top, length-take-le n words size, s.1.within),
        sym s.1.has
            ∙ sym (get_or-set_other (take n words) hole s.0 top 0 s.1.other ∙ get_or-take n words s.0 0 s.1.within),
      )

  pub no_matching : ⊥
  unfolding marked
  no_matching =
      let most : suc n ≤ length marked = pigeons value (suc n) marked values_apart values_stand in
      omega (arith, most, length-set (take n words) hole top, length-take-le n words size)
