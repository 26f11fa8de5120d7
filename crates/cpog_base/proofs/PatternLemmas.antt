-- The entries of a pattern, and the test for a word.
use Rattle.std.proofs.Common.{◌≡◌, ℕ, ◌<◌, ◌≤◌, ◌&&◌, Bool, true, false, if◌then◌else◌, IsTrue, length, replicate, bit_and, refl, sym, ap, ◌∙◌, subst, inl, inr, arith}
use Rattle.std.proofs.lemmas.Bool.{cases_lt, both_ways}
use Rattle.std.proofs.lemmas.Nat.{and_le_r}
use Rattle.std.proofs.lemmas.List.{same_lists, get_or_past, get_or-replicate, length-replicate}
use Rattle.std.proofs.Math.Nat.{one-le-pow}
use Rattle.cpog_defs.specs.declared.types.Bit3.TheVariants.{Zero, One, Free}
use Rattle.cpog_defs.specs.Entries.{Agrees, entry_at}
use Rattle.cpog_defs.specs.Codes.{bit}
use Rattle.cpog_base.specs.declared.limits.TheConstants.{BIT_LIMIT}
use Rattle.cpog_base.specs.BitLaws.{bit-zero, bit-and, same_words}
use Rattle.cpog_base.specs.Pattern.{given_entries, IsGiven, HasGivenBits}
use Rattle.cpog_base.specs.PatternLaws.{length-given, get-given}

pub none_given : (n : ℕ) → given_entries n 0 0 ≡ replicate n Free
none_given n = same_lists (given_entries n 0 0) (replicate n Free) (length-given n 0 0 ∙ sym (length-replicate n Free))
    (λ k d l. let m : k < n = omega (arith, length-given n 0 0) in
    get-given n 0 0 k d m ∙ rw (bit-zero k) (sym (get_or-replicate n k Free d m)))

pub given_none : (n : ℕ) → n ≤ BIT_LIMIT → IsGiven n 0 0
given_none n few = record {
  few = few;
  mask_below = one-le-pow n 2 (omega arith);
  value_below = one-le-pow n 2 (omega arith);
  within = λ i t. t;
}

-- one bit
agree_at : (m v w : Bool) → (w && m) ≡ v → Agrees (if m then (if v then One else Zero) else Free) w
agree_at false v w e = tt
agree_at true true true e = refl
agree_at true true false e = absurd (both_ways _ refl e)
agree_at true false true e = absurd (both_ways _ e refl)
agree_at true false false e = refl

same_at : (m v w : Bool) → (IsTrue v → IsTrue m) → Agrees (if m then (if v then One else Zero) else Free) w → (w && m) ≡ v
same_at true true true i a = refl
same_at true true false i a = absurd (both_ways _ refl a)
same_at true false true i a = absurd (both_ways _ a refl)
same_at true false false i a = refl
same_at false true w i a = absurd (both_ways _ refl (i refl))
same_at false false true i a = refl
same_at false false false i a = refl

module _ (n mask value word : ℕ) (h : IsGiven n mask value) where
  past : (i : ℕ) → n ≤ i → entry_at (given_entries n mask value) i ≡ Free
  past i m =
      let size : length (given_entries n mask value) ≤ i = omega (arith, m, length-given n mask value) in
      get_or_past (given_entries n mask value) i Free size

  pub bits_agree : bit_and word mask ≡ value → HasGivenBits (given_entries n mask value) word
  bits_agree e i = elim (cases_lt i n) [
    | inl l ↦ subst (λ x. Agrees x (bit word i)) (sym (get-given n mask value i Free l))
        (agree_at (bit mask i) (bit value i) (bit word i) (sym (bit-and word mask i) ∙ ap (λ x. bit x i) e))
    | inr m ↦ subst (λ x. Agrees x (bit word i)) (sym (past i m)) tt
  ]

  same_bits : HasGivenBits (given_entries n mask value) word → (i : ℕ) → i < n → bit (bit_and word mask) i ≡ bit value i
  same_bits all i l =
      bit-and word mask i
      ∙ same_at (bit mask i) (bit value i) (bit word i) (h.within i) (subst (λ x. Agrees x (bit word i)) (get-given n mask value i Free l) (all i))

  pub agree_bits : HasGivenBits (given_entries n mask value) word → bit_and word mask ≡ value
  agree_bits all = same_words n (bit_and word mask) value (omega (arith, and_le_r word mask, h.mask_below)) h.value_below (same_bits all)
