-- A table with one parameter set, and whether it depends on one.
use Rattle.std.specs.Prelude.{◌≡◌, refl, ℕ, ◌+◌, ◌-◌, ◌*◌, ◌/◌, ◌%◌, ◌^◌, ◌<◌, ◌≤◌, ◌==◌, Bool, true, false, not, ◌&&◌, ◌||◌, bit_and, bit_or, bit_xor}
use Rattle.std.proofs.Common.{ap, ap₂, ◌∙◌, sym, arith, inl, inr}
use Rattle.std.specs.Bool.{MatchBool}
use Rattle.std.specs.Int.{bit_at, w64, trailing_zeros}
use Rattle.std.proofs.lemmas.Bool.{cases_Bool, cases_lt, and_parts, and_cases, eq-eqb, eqb-true, eqb-false, not-true, both_ways}
use Rattle.std.specs.Int.Bits.{and_lt}
use Rattle.std.proofs.lemmas.Nat.{xor_lt, shr_le}
use Rattle.std.proofs.lemmas.Nat.Bits.{bit_at-trailing_zeros}
use Rattle.cpog_defs.specs.Codes.{bit}
use Rattle.pg_algebra.specs.Tables.{flip, with_param, Changes, Stays}
use Rattle.pg_algebra.proofs.ValuationLaws.{flip-one, flip-below, flip-up, flip-down, turned_by_weight, set_is_same, set_is_flip}
use Rattle.pg_algebra.proofs.TableLemmas.{bit-and, bit-or, bit-shr, bit-shl_above, bit-shl_below, none_above, xor_differs, xor_alike, no_ones}

-- one of two, where the other is cut off
first_left : (a b c d : Bool) → b ≡ true → d ≡ false → ((a && b) || (c && d)) ≡ a
first_left a b c d hb hd = ap₂ (λ x y. (a && x) || (c && y)) hb hd ∙ plain a c
  where
    plain : (a c : Bool) → ((a && true) || (c && false)) ≡ a
    plain true c = refl
    plain false true = refl
    plain false false = refl

second_left : (a b c d : Bool) → b ≡ false → d ≡ true → ((a && b) || (c && d)) ≡ c
second_left a b c d hb hd = ap₂ (λ x y. (a && x) || (c && y)) hb hd ∙ plain a c
  where
    plain : (a c : Bool) → ((a && false) || (c && true)) ≡ c
    plain true true = refl
    plain true false = refl
    plain false true = refl
    plain false false = refl

-- what is cut off by no false is as it was
left_open : (a b : Bool) → (a && b) ≡ false → b ≡ true → a ≡ false
left_open a b none one = elim (and_cases a b none) [
  | inl cut ↦ cut
  | inr cut ↦ absurd (both_ways b cut one)
]

-- ones is the table of parameter k
module _ (k ones : ℕ) (small : k < 6) (word : ones < 2 ^ 64) (is : (n : ℕ) → n < 64 → bit ones n ≡ bit n k) where
  -- a valuation that has the parameter has it no more with its weight added
  past : (n : ℕ) → n < 64 → bit n k ≡ true → bit ones (2 ^ k + n) ≡ false
  past n h has = elim (cases_lt (2 ^ k + n) 64) [
    | inl lt ↦ is (2 ^ k + n) lt ∙ turned_by_weight n k ∙ ap not has
    | inr le ↦ none_above ones (2 ^ k + n) word le
  ]

  turned_on : (n : ℕ) → n < 64 → bit n k ≡ false → bit ones (flip n k) ≡ true
  turned_on n h has_not = is (flip n k) (flip-below n k small h) ∙ flip-one n k ∙ ap not has_not

  pub fixed_to_one : (t n : ℕ) → n < 64 → bit (bit_or (bit_and t ones) (bit_and t ones / 2 ^ (2 ^ k))) n ≡ bit t (with_param n k true)
  fixed_to_one t n h = split ∙ elim (cases_Bool (bit n k)) [
    | inl has ↦ first_left (bit t n) (bit ones n) (bit t (2 ^ k + n)) (bit ones (2 ^ k + n)) (is n h ∙ has) (past n h has) ∙ ap (bit t) (sym (set_is_same n k true has))
    | inr has_not ↦ second_left (bit t n) (bit ones n) (bit t (2 ^ k + n)) (bit ones (2 ^ k + n)) (is n h ∙ has_not) (ap (bit ones) (sym (flip-up n k has_not)) ∙ turned_on n h has_not)
        ∙ ap (bit t) (sym (flip-up n k has_not) ∙ sym (set_is_flip n k true has_not))
  ]
    where
      split : bit (bit_or (bit_and t ones) (bit_and t ones / 2 ^ (2 ^ k))) n ≡ ((bit t n && bit ones n) || (bit t (2 ^ k + n) && bit ones (2 ^ k + n)))
      split = bit-or (bit_and t ones) (bit_and t ones / 2 ^ (2 ^ k)) n ∙ ap₂ (λ a b. a || b) (bit-and t ones n) (bit-shr (bit_and t ones) (2 ^ k) n ∙ bit-and t ones (2 ^ k + n))

-- zeros has a 1 where parameter k has none
module _ (k zeros : ℕ) (small : k < 6) (is_not : (n : ℕ) → n < 64 → bit zeros n ≡ not (bit n k)) where
  -- one that has it not has it with its weight taken away
  before : (n : ℕ) → n < 64 → 2 ^ k ≤ n → bit n k ≡ false → bit zeros (n - 2 ^ k) ≡ false
  before n h le has_not = is_not (n - 2 ^ k) (omega arith) ∙ sym (turned_by_weight (n - 2 ^ k) k) ∙ ap (λ m. bit m k) up ∙ has_not
    where
      up : 2 ^ k + (n - 2 ^ k) ≡ n
      up = omega arith

  turned_off : (n : ℕ) → n < 64 → bit n k ≡ true → bit zeros (flip n k) ≡ true
  turned_off n h has = is_not (flip n k) (flip-below n k small h) ∙ ap not (flip-one n k ∙ ap not has)

  pub fixed_to_zero : (t n : ℕ) → n < 64 → bit (bit_or (bit_and t zeros) (bit_and t zeros * 2 ^ (2 ^ k) % 2 ^ 64)) n ≡ bit t (with_param n k false)
  fixed_to_zero t n h = bit-or (bit_and t zeros) (bit_and t zeros * 2 ^ (2 ^ k) % 2 ^ 64) n ∙ elim (cases_Bool (bit n k)) [
    | inl has ↦ ap₂ (λ a b. a || b) (bit-and t zeros n) (shifted (weighs has) ∙ ap (bit (bit_and t zeros)) (down has) ∙ bit-and t zeros (flip n k))
        ∙ second_left (bit t n) (bit zeros n) (bit t (flip n k)) (bit zeros (flip n k)) (is_not n h ∙ ap not has) (turned_off n h has)
        ∙ ap (bit t) (sym (set_is_flip n k false has))
    | inr has_not ↦ elim (cases_lt n (2 ^ k)) [
      | inl lt ↦ ap₂ (λ a b. a || b) (bit-and t zeros n) (bit-shl_below (bit_and t zeros) (2 ^ k) n h lt)
          ∙ first_left (bit t n) (bit zeros n) false false (is_not n h ∙ ap not has_not) refl
          ∙ ap (bit t) (sym (set_is_same n k false has_not))
      | inr le ↦ ap₂ (λ a b. a || b) (bit-and t zeros n) (shifted le ∙ bit-and t zeros (n - 2 ^ k))
          ∙ first_left (bit t n) (bit zeros n) (bit t (n - 2 ^ k)) (bit zeros (n - 2 ^ k)) (is_not n h ∙ ap not has_not) (before n h le has_not)
          ∙ ap (bit t) (sym (set_is_same n k false has_not))
    ]
  ]
    where
      weighs : bit n k ≡ true → 2 ^ k ≤ n
      weighs has = let e = flip-down n k has in omega (arith, e)

      down : bit n k ≡ true → n - 2 ^ k ≡ flip n k
      down has = let e = flip-down n k has in omega (arith, e)

      shifted : 2 ^ k ≤ n → bit (bit_and t zeros * 2 ^ (2 ^ k) % 2 ^ 64) n ≡ bit (bit_and t zeros) (n - 2 ^ k)
      shifted le = bit-shl_above (bit_and t zeros) (2 ^ k) n h le

  -- the valuations that have the parameter not, and whose value is another with it
  abbrev changing : ℕ → ℕ
  changing t = bit_and (bit_xor t (t / 2 ^ (2 ^ k))) zeros

  bit-changing : (t n : ℕ) → bit (changing t) n ≡ (bit (bit_xor t (t / 2 ^ (2 ^ k))) n && bit zeros n)
  bit-changing t n = bit-and (bit_xor t (t / 2 ^ (2 ^ k))) zeros n

  over : (t n : ℕ) → bit n k ≡ false → bit (t / 2 ^ (2 ^ k)) n ≡ bit t (flip n k)
  over t n has_not = bit-shr t (2 ^ k) n ∙ ap (bit t) (sym (flip-up n k has_not))

  changes : (t : ℕ) → 0 < changing t → changing t < 2 ^ 64 → Changes t k
  changes t some below = record {
    valuation = trailing_zeros w64 (changing t);
    below = first.0;
    differs = λ same. xor_differs t (t / 2 ^ (2 ^ k)) (trailing_zeros w64 (changing t)) parts.0 (same ∙ sym (over t (trailing_zeros w64 (changing t)) has_not));
  }
    where
      first : (trailing_zeros w64 (changing t) < 64) × (bit_at (changing t) (trailing_zeros w64 (changing t)) ≡ 1) × ((i : ℕ) → i < trailing_zeros w64 (changing t) → bit_at (changing t) i ≡ 0)
      first = bit_at-trailing_zeros w64 (changing t) some below

      parts : (bit (bit_xor t (t / 2 ^ (2 ^ k))) (trailing_zeros w64 (changing t)) ≡ true) × (bit zeros (trailing_zeros w64 (changing t)) ≡ true)
      parts = and_parts _ _ (sym (bit-changing t (trailing_zeros w64 (changing t))) ∙ eq-eqb _ _ first.1)

      has_not : bit (trailing_zeros w64 (changing t)) k ≡ false
      has_not = not-true _ (sym (is_not (trailing_zeros w64 (changing t)) first.0) ∙ parts.1)

  stays : (t : ℕ) → changing t ≡ 0 → Stays t k
  stays t none n h = elim (cases_Bool (bit n k)) [
    | inl has ↦ ap (bit t) (sym (back has)) ∙ sym (step (flip n k) (flip-below n k small h) (flip-one n k ∙ ap not has))
    | inr has_not ↦ step n h has_not
  ]
    where
      step : (m : ℕ) → m < 64 → bit m k ≡ false → bit t m ≡ bit t (flip m k)
      step m hm has_not = xor_alike t (t / 2 ^ (2 ^ k)) m quiet ∙ over t m has_not
        where
          quiet : bit (bit_xor t (t / 2 ^ (2 ^ k))) m ≡ false
          quiet = left_open (bit (bit_xor t (t / 2 ^ (2 ^ k))) m) (bit zeros m) (sym (bit-changing t m) ∙ ap (λ x. bit x m) none ∙ no_ones m) (is_not m hm ∙ ap not has_not)

      back : bit n k ≡ true → flip (flip n k) k ≡ n
      back has = flip-up (flip n k) k (flip-one n k ∙ ap not has) ∙ flip-down n k has

  pub dependence : zeros < 2 ^ 64 → (t : ℕ) → t < 2 ^ 64 → MatchBool (not (changing t == 0)) (Changes t k) (Stays t k)
  dependence word t ht = told (changing t == 0) (λ none. stays t (eqb-true (changing t) 0 none)) (λ some. changes t (positive (eqb-false (changing t) 0 some)) within)
    where
      told : (none : Bool) → (none ≡ true → Stays t k) → (none ≡ false → Changes t k) → MatchBool (not none) (Changes t k) (Stays t k)
      told true same differ = same refl
      told false same differ = differ refl

      positive : (changing t ≡ 0 → ⊥) → 0 < changing t
      positive h = omega (arith, h)

      within : changing t < 2 ^ 64
      within = and_lt 64 (bit_xor t (t / 2 ^ (2 ^ k))) zeros (xor_lt 64 t (t / 2 ^ (2 ^ k)) ht (let le = shr_le t (2 ^ k) in omega (arith, le, ht))) word
