-- A value that no open parameter changes is the same under all valuations that agree.
use Rattle.std.specs.Prelude.{◌≡◌, ◌⊎◌, refl, ℕ, ◌<◌, ◌≤◌, ◌==◌, Bool, true, false, not}
use Rattle.std.proofs.Common.{zero, suc, ap, ◌∙◌, sym, subst, arith, inl, inr}
use Rattle.std.proofs.lemmas.Nat.Bits.{bit_at-lt, same_from_bits, bit_at_above}
use Rattle.std.proofs.lemmas.Bool.{cases_Bool, cases_eq, both_ways}
use Rattle.std.proofs.lemmas.Bool.Decides.{nat_tests}
use Rattle.cpog_defs.specs.Codes.{bit}
use Rattle.pg_algebra.specs.Tables.{flip}
use Rattle.pg_algebra.proofs.ValuationLaws.{flip-one, flip-others, flip-below}
use Rattle.pg_normal.specs.Instances.{Agrees}

same_bit : (a b : ℕ) → a < 2 → b < 2 → (a == 1) ≡ (b == 1) → a ≡ b
same_bit a b l m e = grind (arith, nat_tests)

-- a valuation that agrees still does where an open parameter is turned
pub still_agrees : (fixed values k n : ℕ) → bit fixed k ≡ false → Agrees fixed values n → Agrees fixed values (flip n k)
still_agrees fixed values k n free agrees j lt held = flip-others n k j (λ e. both_ways (bit fixed k) free (subst (λ i. bit fixed i ≡ true) e held)) ∙ agrees j lt held

module _ (fixed values : ℕ) (f : ℕ → Bool)
    (open_ones : (k n : ℕ) → k < 6 → n < 64 → bit fixed k ≡ false → Agrees fixed values n → f n ≡ f (flip n k)) where
  -- two that agree above the first k parameters
  joined : (k n m : ℕ) → k ≤ 6 → n < 64 → Agrees fixed values n → Agrees fixed values m → ((j : ℕ) → k ≤ j → bit n j ≡ bit m j) → f n ≡ f m
  joined zero n m h hn an am above = ap f (same_from_bits n m (λ i. same_bit _ _ (bit_at-lt n i) (bit_at-lt m i) (above i (omega arith))))
  joined (suc k) n m h hn an am above = elim (cases_Bool (bit fixed k)) [
    | inl bound ↦ joined k n m (omega arith) hn an am (λ j le. elim (cases_eq j k) [
      | inl e ↦ rw e (an k (omega arith) bound ∙ sym (am k (omega arith) bound))
      | inr ne ↦ above j (omega arith)
    ])
    | inr free ↦ elim (bits_same (bit n k) (bit m k)) [
      | inl e ↦ joined k n m (omega arith) hn an am (λ j le. elim (cases_eq j k) [
        | inl is ↦ rw is e
        | inr ne ↦ above j (omega arith)
      ])
      | inr differ ↦ open_ones k n (omega arith) hn free an ∙ joined k (flip n k) m (omega arith) (flip-below n k (omega arith) hn) (flipped free) am (λ j le. elim (cases_eq j k) [
        | inl is ↦ rw is (flip-one n k ∙ differ)
        | inr ne ↦ flip-others n k j ne ∙ above j (omega arith)
      ])
    ]
  ]
    where
      bits_same : (a b : Bool) → (a ≡ b) ⊎ (not a ≡ b)
      bits_same true true = inl refl
      bits_same true false = inr refl
      bits_same false true = inr refl
      bits_same false false = inl refl

      flipped : bit fixed k ≡ false → Agrees fixed values (flip n k)
      flipped free = still_agrees fixed values k n free an

  pub constant_on_agreeing : (n m : ℕ) → n < 64 → m < 64 → Agrees fixed values n → Agrees fixed values m → f n ≡ f m
  constant_on_agreeing n m hn hm an am = joined 6 n m (omega arith) hn an am (λ j le. ap (λ b. b == 1) (bit_at_above n 6 j hn le ∙ sym (bit_at_above m 6 j hm le)))
