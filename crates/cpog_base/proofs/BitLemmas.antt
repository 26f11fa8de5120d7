-- When a word is within another, and when two share a bit.
use Rattle.std.proofs.Common.{◌≡◌, ◌↔◌, ℕ, zero, suc, ◌^◌, ◌<◌, ◌==◌, not, ◌&&◌, IsTrue, bit_and, refl, sym, ap, ◌∙◌, inl, inr, arith}
use Rattle.std.specs.Int.{w64, bit_not, trailing_zeros}
use Rattle.std.proofs.lemmas.Bool.{cases_lt, both_ways, and_parts, and_from, ne_eqb}
use Rattle.std.proofs.lemmas.Nat.{and_le_l}
use Rattle.std.proofs.lemmas.Nat.Bits.{bit_at-trailing_zeros}
use Rattle.cpog_defs.specs.Codes.{bit}
use Rattle.cpog_base.specs.Bits.{IsWithin, ShareBit}
use Rattle.cpog_base.specs.BitLaws.{bit-zero, bit-and, bit-not, kept_out, none_out, none_above, same_words}

cut_bit : (a b i : ℕ) → b < 2 ^ 64 → i < 64 → bit (bit_and a (bit_not w64 b)) i ≡ (bit a i && not (bit b i))
cut_bit a b i l m = bit-and a (bit_not w64 b) i ∙ ap (λ k. bit a i && k) (bit-not w64 b i l m)

pub within_from : (a b : ℕ) → a < 2 ^ 64 → b < 2 ^ 64 → bit_and a (bit_not w64 b) ≡ 0 → IsWithin a b
within_from a b la lb none i one = elim (cases_lt i 64) [
  | inl m ↦ kept_out (bit a i) (bit b i) (sym (cut_bit a b i lb m) ∙ ap (λ k. bit k i) none ∙ bit-zero i) one
  | inr m ↦ absurd (both_ways _ (none_above 64 a i la m) one)
]

pub from_within : (a b : ℕ) → a < 2 ^ 64 → b < 2 ^ 64 → IsWithin a b → bit_and a (bit_not w64 b) ≡ 0
from_within a b la lb all =
    same_words 64 (bit_and a (bit_not w64 b)) 0 (omega (arith, and_le_l a (bit_not w64 b))) (omega arith)
    (λ i m. cut_bit a b i lb m ∙ none_out (bit a i) (bit b i) (all i) ∙ sym (bit-zero i))

some_bit : (x : ℕ) → IsTrue (not (x == 0)) → 0 < x
some_bit zero t = absurd (both_ways _ refl t)
some_bit (suc x) t = omega arith

shared_from : (a b : ℕ) → a < 2 ^ 64 → 0 < bit_and a b → ShareBit a b
shared_from a b la some =
    let low = bit_at-trailing_zeros w64 (bit_and a b) some (omega (arith, and_le_l a b)) in
    let i : ℕ = trailing_zeros w64 (bit_and a b) in
    (i, and_parts (bit a i) (bit b i) (sym (bit-and a b i) ∙ ap (λ k. k == 1) low.1))

from_shared : (a b : ℕ) → ShareBit a b → bit_and a b ≡ 0 → ⊥
from_shared a b h none =
    both_ways _ (ap (λ k. bit k h.0) none ∙ bit-zero h.0) (bit-and a b h.0 ∙ and_from (bit a h.0) (bit b h.0) h.1.0 h.1.1)

pub share_tells : (a b : ℕ) → a < 2 ^ 64 → IsTrue (not (bit_and a b == 0)) ↔ ShareBit a b
share_tells a b l = (
  λ t. shared_from a b l (some_bit (bit_and a b) t),
  λ h. ap not (ne_eqb (bit_and a b) 0 (from_shared a b h)),
)
