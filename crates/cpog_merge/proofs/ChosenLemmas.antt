-- Which columns of a list are classes, and that one serves each column.
use Rattle.std.proofs.Common.{◌≡◌, ℕ, zero, suc, ◌+◌, ◌-◌, ◌*◌, ◌<◌, ◌≤◌, Bool, true, false, not, ◌&&◌, ◌||◌, IsTrue, List, [], ◌∷◌, length, get_or, take, drop, refl, sym, ap, ◌∙◌, subst, inl, inr, arith}
use Rattle.std.specs.List.{list_any, list_all, All}
use Rattle.std.proofs.lemmas.Bool.{both_ways, cases_lt, cases_Bool, or_cases, or_parts, or_left, or_right, and_parts, and_from, and_cases, not-true, not-false, not_from_false, false_from_ne_true}
use Rattle.std.proofs.lemmas.List.{get_or-take, get_or-drop, get_or_default, length-take-le, length-drop}
use Rattle.std.proofs.lemmas.List.Elements.{All-get_or}
use Rattle.std.proofs.Math.Nat.{mul-le-mul_right}
use Rattle.cpog_defs.specs.declared.types.Bit3.{Bit3}
use Rattle.cpog_merge.specs.Classes.{IsServedBy}
use Rattle.cpog_merge.specs.Opens.{serves, is_class_at}
use Rattle.cpog_merge.proofs.ServingLemmas.{served_decides, serves_itself, served_through, asked_below, few_asked, larger_serves, serves_back_from}

module _ {A : Type 0} (p : A → Bool) where
  -- some element passes, by its place
  pub any_some : (xs : List A) → IsTrue (list_any p xs) → (k : ℕ) × (k < length xs) × ((d : A) → IsTrue (p (get_or xs k d)))
  any_some [] h = absurd (both_ways _ refl h)
  any_some (x ∷ xs) h = elim (or_cases (p x) (list_any p xs) h) [
    | inl here ↦ (zero, omega arith, λ d. here)
    | inr there ↦ let r = any_some xs there in (suc r.0, omega (arith, r.1), r.2)
  ]

  pub any_none : (xs : List A) → list_any p xs ≡ false → (k : ℕ) (d : A) → k < length xs → p (get_or xs k d) ≡ false
  any_none [] h k d l = absurd (omega arith)
  any_none (x ∷ xs) h zero d l = (or_parts (p x) (list_any p xs) h).0
  any_none (x ∷ xs) h (suc k) d l = any_none xs (or_parts (p x) (list_any p xs) h).1 k d (omega arith)

  pub none_any : (xs : List A) → ((k : ℕ) (d : A) → k < length xs → p (get_or xs k d) ≡ false) → list_any p xs ≡ false
  none_any [] h = refl
  none_any (x ∷ xs) h = rw (h zero x (omega arith)) (none_any xs (λ k d l. h (suc k) d (omega arith)))

  -- some element fails, by its place
  pub some_fails : (xs : List A) → list_all p xs ≡ false → (k : ℕ) × (k < length xs) × ((d : A) → p (get_or xs k d) ≡ false)
  some_fails [] h = absurd (both_ways _ h refl)
  some_fails (x ∷ xs) h = elim (and_cases (p x) (list_all p xs) h) [
    | inl here ↦ (zero, omega arith, λ d. here)
    | inr there ↦ let r = some_fails xs there in (suc r.0, omega (arith, r.1), r.2)
  ]

  pub all_pass : (xs : List A) → IsTrue (list_all p xs) → (k : ℕ) (d : A) → k < length xs → IsTrue (p (get_or xs k d))
  all_pass [] h k d l = absurd (omega arith)
  all_pass (x ∷ xs) h zero d l = (and_parts (p x) (list_all p xs) h).0
  all_pass (x ∷ xs) h (suc k) d l = all_pass xs (and_parts (p x) (list_all p xs) h).1 k d (omega arith)

  pub pass_all : (xs : List A) → ((k : ℕ) (d : A) → k < length xs → IsTrue (p (get_or xs k d))) → IsTrue (list_all p xs)
  pass_all [] h = refl
  pass_all (x ∷ xs) h = and_from (p x) (list_all p xs) (h zero x (omega arith)) (pass_all xs (λ k d l. h (suc k) d (omega arith)))

-- the column at a place
abbrev pub at : List (List Bit3) → ℕ → List Bit3
at xs i = get_or xs i []

-- no earlier column serves it, and it serves each later one that serves it
pub record IsClassIn (xs : List (List Bit3)) (i : ℕ) : Type 0 where
  pub none_earlier : (k : ℕ) → k < i → IsServedBy (at xs i) (at xs k) → ⊥
  pub serves_back : (k : ℕ) → i < k → k < length xs → IsServedBy (at xs i) (at xs k) → IsServedBy (at xs k) (at xs i)

module _ (xs : List (List Bit3)) (i : ℕ) (l : i < length xs) where
  front_size : length (take i xs) ≡ i
  front_size = length-take-le i xs (omega arith)

  back_at : (k : ℕ) → i < k → get_or (drop (i + 1) xs) (k - (i + 1)) [] ≡ at xs k
  back_at k m = let e : i + 1 + (k - (i + 1)) ≡ k = omega arith in get_or-drop (i + 1) xs (k - (i + 1)) [] ∙ ap (at xs) e

  -- the test tells a class
  pub class_from_test : IsTrue (is_class_at xs i) → IsClassIn xs i
  class_from_test t =
      let both = and_parts (not (list_any (λ q. serves q (at xs i)) (take i xs))) (list_all (λ q. not (serves q (at xs i)) || serves (at xs i) q) (drop (i + 1) xs)) t in
      record {
        none_earlier = λ k m served.
            let fails : serves (get_or (take i xs) k []) (at xs i) ≡ false = any_none (λ q. serves q (at xs i)) (take i xs) (not-true _ both.0) k [] (omega (arith, front_size)) in
            both_ways _ (ap (λ q. serves q (at xs i)) (sym (get_or-take i xs k [] m)) ∙ fails) ((served_decides (at xs k) (at xs i)).1 served);
        serves_back = λ k m n served.
            let passes = all_pass (λ q. not (serves q (at xs i)) || serves (at xs i) q) (drop (i + 1) xs) both.1 (k - (i + 1)) [] (omega (arith, length-drop (i + 1) xs)) in
            let here : IsTrue (not (serves (at xs k) (at xs i)) || serves (at xs i) (at xs k)) = subst (λ q. IsTrue (not (serves q (at xs i)) || serves (at xs i) q)) (back_at k m) passes in
            elim (or_cases _ _ here) [
              | inl fails ↦ absurd (both_ways _ (not-true _ fails) ((served_decides (at xs k) (at xs i)).1 served))
              | inr passes_back ↦ (served_decides (at xs i) (at xs k)).0 passes_back
            ];
      }

  -- and a class passes it
  pub test_from_class : IsClassIn xs i → IsTrue (is_class_at xs i)
  test_from_class h =
      and_from _ _
      (not_from_false _ (none_any (λ q. serves q (at xs i)) (take i xs) (λ k d m.
      let n : k < i = omega (arith, front_size) in
      false_from_ne_true _ (λ t. h.none_earlier k n ((served_decides (at xs k) (at xs i)).0 (ap (λ q. serves q (at xs i)) (there k d n) ∙ t))))))
      (pass_all (λ q. not (serves q (at xs i)) || serves (at xs i) q) (drop (i + 1) xs) (λ k d m.
      let n : i + 1 + k < length xs = omega (arith, length-drop (i + 1) xs) in
      let e : get_or (drop (i + 1) xs) k d ≡ at xs (i + 1 + k) = get_or-drop (i + 1) xs k d ∙ get_or_default xs (i + 1 + k) d [] n in
      subst (λ q. IsTrue (not (serves q (at xs i)) || serves (at xs i) q)) (sym e) (either (i + 1 + k) (omega arith) n)))
    where
      there : (k : ℕ) (d : List Bit3) → k < i → at xs k ≡ get_or (take i xs) k d
      there k d n = get_or_default xs k [] d (omega arith) ∙ sym (get_or-take i xs k d n)

      either : (k : ℕ) → i < k → k < length xs → IsTrue (not (serves (at xs k) (at xs i)) || serves (at xs i) (at xs k))
      either k m n = elim (cases_Bool (serves (at xs k) (at xs i))) [
        | inl t ↦ or_right _ _ ((served_decides (at xs i) (at xs k)).1 (h.serves_back k m n ((served_decides (at xs k) (at xs i)).0 t)))
        | inr f ↦ or_left _ _ (not_from_false _ f)
      ]

-- ---- each column is served by a class

-- a later turn has less left: what asks for more comes first, and then what stands earlier
module _ (xs : List (List Bit3)) (m : ℕ) (short : All (λ c. length c ≤ m) xs) where
  left : ℕ → ℕ
  left i = (m - asked_below (at xs i) m) * length xs + i

  pub record HasClassIn (i : ℕ) : Type 0 where
    pub class : ℕ
    pub in_range : class < length xs
    pub is_class : IsTrue (is_class_at xs class)
    pub serves : IsServedBy (at xs i) (at xs class)

  through : (i k : ℕ) → IsServedBy (at xs i) (at xs k) → HasClassIn k → HasClassIn i
  through i k h r = record { class = r.class; in_range = r.in_range; is_class = r.is_class; serves = served_through (at xs i) (at xs k) (at xs r.class) h r.serves }

  less : (x y n i k : ℕ) → x + 1 ≤ y → k < n → x * n + k < y * n + i
  less x y n i k h l = let p : (x + 1) * n ≤ y * n = mul-le-mul_right n h in grind arith

  earlier : (x y n i k : ℕ) → x ≤ y → k < i → x * n + k < y * n + i
  earlier x y n i k h l = let p : x * n ≤ y * n = mul-le-mul_right n h in omega arith

  first_from : (fuel i : ℕ) → i < length xs → left i < fuel → HasClassIn i
  unfolding left
  first_from zero i l f = absurd (omega arith)
  first_from (suc fuel) i l f = elim (cases_Bool (is_class_at xs i)) [
    | inl t ↦ record { class = i; in_range = l; is_class = t; serves = serves_itself (at xs i) }
    | inr fail ↦ elim (cases_Bool (list_any (λ q. serves q (at xs i)) (take i xs))) [
      | inl some ↦
          let r = any_some (λ q. serves q (at xs i)) (take i xs) some in
          let k : ℕ = r.0 in
          let before : k < i = omega (arith, r.1, length-take-le i xs) in
          let h : IsServedBy (at xs i) (at xs k) = (served_decides (at xs k) (at xs i)).0 (ap (λ q. serves q (at xs i)) (sym (get_or-take i xs k [] before)) ∙ r.2 []) in
          let more = larger_serves (at xs i) (at xs k) m h in
          let smaller = earlier (m - asked_below (at xs k) m) (m - asked_below (at xs i) m) (length xs) i k (omega arith) before in
          through i k h (first_from fuel k (omega arith) (omega arith))
      | inr none ↦
          let fails : list_all (λ q. not (serves q (at xs i)) || serves (at xs i) q) (drop (i + 1) xs) ≡ false = second_false _ _ (not_from_false _ none) fail in
          let r = some_fails (λ q. not (serves q (at xs i)) || serves (at xs i) q) (drop (i + 1) xs) fails in
          let k : ℕ = i + 1 + r.0 in
          let within : k < length xs = omega (arith, r.1, length-drop (i + 1) xs) in
          let e : get_or (drop (i + 1) xs) r.0 [] ≡ at xs k = get_or-drop (i + 1) xs r.0 [] in
          let parts = or_parts (not (serves (at xs k) (at xs i))) (serves (at xs i) (at xs k)) (ap (λ q. not (serves q (at xs i)) || serves (at xs i) q) (sym e) ∙ r.2 []) in
          let h : IsServedBy (at xs i) (at xs k) = (served_decides (at xs k) (at xs i)).0 (not-false _ parts.0) in
          let more : asked_below (at xs i) m < asked_below (at xs k) m = strictly i k within h parts.1 in
          let smaller = less (m - asked_below (at xs k) m) (m - asked_below (at xs i) m) (length xs) i k (omega (arith, few_asked (at xs k) m)) within in
          through i k h (first_from fuel k within (omega arith))
    ]
  ]
    where
      second_false : (a b : Bool) → IsTrue a → (a && b) ≡ false → b ≡ false
      second_false true b t h = h
      second_false false b t h = absurd (both_ways _ refl t)

      strictly : (i k : ℕ) → k < length xs → IsServedBy (at xs i) (at xs k) → serves (at xs i) (at xs k) ≡ false → asked_below (at xs i) m < asked_below (at xs k) m
      strictly i k within h fails = elim (cases_lt (asked_below (at xs i) m) (asked_below (at xs k) m)) [
        | inl l ↦ l
        | inr g ↦ absurd (both_ways _ fails ((served_decides (at xs i) (at xs k)).1
            (serves_back_from (at xs i) (at xs k) m (All-get_or (λ c. length c ≤ m) xs k [] within short) h g)))
      ]

  pub has_class : (i : ℕ) → i < length xs → HasClassIn i
  has_class i l = first_from (suc (left i)) i l (omega arith)
