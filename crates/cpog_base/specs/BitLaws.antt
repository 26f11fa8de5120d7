-- The bits of words that are made of other words, and when two words are one.
use Rattle.std.specs.Prelude.{Bool, IsTrue, ◌≡◌, ◌≢◌, ℕ, zero, suc, ◌-◌, ◌*◌, ◌/◌, ◌%◌, ◌^◌, ◌<◌, ◌≤◌, ◌==◌, true, false, not, ◌&&◌, ◌||◌, min, max, bit_and, bit_or}
use Rattle.std.specs.Int.{Width, w64, bit_not}
use mir.Val.{bits}
use Rattle.std.proofs.Common.{refl, sym, ap, ◌∙◌, inl, inr, arith}
use Rattle.std.proofs.lemmas.Bool.{cases_lt, both_ways}
use Rattle.std.proofs.lemmas.Bool.Decides.{nat_tests}
use Rattle.std.proofs.lemmas.Nat.{or_lt, and_le_l}
use Rattle.std.proofs.Math.Pow.{pow-lt}
use Rattle.std.proofs.lemmas.Nat.Bits.{shr_and_one, bit_at_and, bit_at_or, bit_at_not, bit_at-lt, bit_at-zero, bit_at_above, bit_at_set_same, bit_at_set_other, bit_at_clear_same, bit_at_clear_other, same_from_bits_below}
use Rattle.cpog_defs.specs.Codes.{bit}

-- a digit is 0 or 1
pub two_digits : (x : ℕ) (P : ℕ → Type 0) → x < 2 → P 0 → P 1 → P x
two_digits zero P l a b = a
two_digits (suc zero) P l a b = b
two_digits (suc (suc x)) P l a b = absurd (omega arith)

-- two digits that are 1 together are one
pub same_digit : (a b : ℕ) → a < 2 → b < 2 → (a == 1) ≡ (b == 1) → a ≡ b
same_digit a b l m e = grind (arith, nat_tests)

pub bit-zero : (i : ℕ) → bit 0 i ≡ false
bit-zero i = ap (λ b. b == 1) (bit_at-zero i)

-- a word of n bits has none from n on
pub none_above : (n word i : ℕ) → word < 2 ^ n → n ≤ i → bit word i ≡ false
none_above n word i l m = ap (λ k. k == 1) (bit_at_above word n i l m)

-- two words below 2 ^ n with the same first n bits are one
pub same_words : (n a b : ℕ) → a < 2 ^ n → b < 2 ^ n → ((i : ℕ) → i < n → bit a i ≡ bit b i) → a ≡ b
same_words n a b la lb same = same_from_bits_below n a b la lb (λ i l. same_digit (a / 2 ^ i % 2) (b / 2 ^ i % 2) (bit_at-lt a i) (bit_at-lt b i) (same i l))

pub bit-and : (a b i : ℕ) → bit (bit_and a b) i ≡ (bit a i && bit b i)
bit-and a b i =
    ap (λ k. k == 1) (bit_at_and a b i)
    ∙ two_digits (a / 2 ^ i % 2) (λ x. (min x (b / 2 ^ i % 2) == 1) ≡ ((x == 1) && (b / 2 ^ i % 2 == 1))) (bit_at-lt a i)
    (two_digits (b / 2 ^ i % 2) (λ y. (min 0 y == 1) ≡ ((0 == 1) && (y == 1))) (bit_at-lt b i) refl refl)
    (two_digits (b / 2 ^ i % 2) (λ y. (min 1 y == 1) ≡ ((1 == 1) && (y == 1))) (bit_at-lt b i) refl refl)

pub bit-or : (a b i : ℕ) → bit (bit_or a b) i ≡ (bit a i || bit b i)
bit-or a b i =
    ap (λ k. k == 1) (bit_at_or a b i)
    ∙ two_digits (a / 2 ^ i % 2) (λ x. (max x (b / 2 ^ i % 2) == 1) ≡ ((x == 1) || (b / 2 ^ i % 2 == 1))) (bit_at-lt a i)
    (two_digits (b / 2 ^ i % 2) (λ y. (max 0 y == 1) ≡ ((0 == 1) || (y == 1))) (bit_at-lt b i) refl refl)
    (two_digits (b / 2 ^ i % 2) (λ y. (max 1 y == 1) ≡ ((1 == 1) || (y == 1))) (bit_at-lt b i) refl refl)

pub bit-not : (w : Width) (a i : ℕ) → a < 2 ^ bits w → i < bits w → bit (bit_not w a) i ≡ not (bit a i)
bit-not w a i l m =
    ap (λ k. k == 1) (bit_at_not w a i l m)
    ∙ two_digits (a / 2 ^ i % 2) (λ x. (1 - x == 1) ≡ not (x == 1)) (bit_at-lt a i) refl refl

-- a bit that is not left of one word without the other is a bit of both
pub kept_out : (a b : Bool) → (a && not b) ≡ false → IsTrue a → IsTrue b
kept_out true true h t = refl
kept_out true false h t = absurd (both_ways _ h refl)
kept_out false b h t = absurd (both_ways _ refl t)

pub none_out : (a b : Bool) → (IsTrue a → IsTrue b) → (a && not b) ≡ false
none_out true true h = refl
none_out true false h = absurd (both_ways _ refl (h refl))
none_out false b h = refl

-- ---- one bit of a word of 64

pub bit_read : (word i : ℕ) → (bit_and (word / 2 ^ i) 1 == 1) ≡ bit word i
bit_read word i = ap (λ b. b == 1) (shr_and_one word i)

power-lt : (i n : ℕ) → i < n → 1 * 2 ^ i % 2 ^ 64 < 2 ^ n
power-lt i n l = let p : 2 ^ i < 2 ^ n = pow-lt l in omega arith

pub raised_same : (n i : ℕ) → i < 64 → bit (bit_or n (1 * 2 ^ i % 2 ^ 64)) i ≡ true
raised_same n i l = ap (λ b. b == 1) (bit_at_set_same w64 n i l)

pub raised_other : (n i : ℕ) → i < 64 → (k : ℕ) → k ≢ i → bit (bit_or n (1 * 2 ^ i % 2 ^ 64)) k ≡ bit n k
raised_other n i l k other = ap (λ b. b == 1) (bit_at_set_other w64 n i l k other)

pub raised-lt : (word i n : ℕ) → i < n → word < 2 ^ n → bit_or word (1 * 2 ^ i % 2 ^ 64) < 2 ^ n
raised-lt word i n l h = or_lt n word (1 * 2 ^ i % 2 ^ 64) h (power-lt i n l)

pub lowered_same : (n i : ℕ) → i < 64 → bit (bit_and n (2 ^ 64 - 1 - 1 * 2 ^ i % 2 ^ 64)) i ≡ false
lowered_same n i l = ap (λ b. b == 1) (bit_at_clear_same w64 n i l)

pub lowered_other : (n i : ℕ) → n < 2 ^ 64 → i < 64 → (k : ℕ) → k ≢ i → bit (bit_and n (2 ^ 64 - 1 - 1 * 2 ^ i % 2 ^ 64)) k ≡ bit n k
lowered_other n i h l k other = elim (cases_lt k 64) [
  | inl m ↦ ap (λ b. b == 1) (bit_at_clear_other w64 n i l k m other)
  | inr m ↦
      none_above 64 (bit_and n (2 ^ 64 - 1 - 1 * 2 ^ i % 2 ^ 64)) k (omega (arith, and_le_l n (2 ^ 64 - 1 - 1 * 2 ^ i % 2 ^ 64))) m
      ∙ sym (none_above 64 n k h m)
]
