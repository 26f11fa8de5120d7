-- What each step on words does to the bits of a table.
use Rattle.std.specs.Prelude.{◌≡◌, refl, ℕ, ◌+◌, ◌-◌, ◌*◌, ◌/◌, ◌%◌, ◌^◌, ◌<◌, ◌≤◌, ◌==◌, Bool, true, false, not, ◌&&◌, ◌||◌, min, max, bit_and, bit_or, bit_xor}
use Rattle.std.proofs.Common.{zero, suc, ap, ◌∙◌, sym, arith}
use Rattle.std.specs.Int.{bit_at, w64}
use Rattle.std.specs.Bool.{beq}
use Rattle.std.proofs.lemmas.Nat.{shr-shr, shr_split, pow_pos}
use Rattle.std.proofs.lemmas.Nat.Bits.{bit_at_or, bit_at_and, bit_at_xor, bit_at_not, bit_at-lt, bit_at_cat_low, bit_at_cat_high, bit_at-zero, bit_at_above}
use Rattle.std.proofs.lemmas.Bool.Decides.{nat_tests}
use Rattle.std.proofs.lemmas.Bool.{agree_below, agree_below_at, both_ways}
use Rattle.cpog_defs.specs.Codes.{bit}

both : (a b : ℕ) → a < 2 → b < 2 → (min a b == 1) ≡ ((a == 1) && (b == 1))
both a b h k = grind (arith, nat_tests)

either : (a b : ℕ) → a < 2 → b < 2 → (max a b == 1) ≡ ((a == 1) || (b == 1))
either a b h k = grind (arith, nat_tests)

other : (a : ℕ) → a < 2 → (1 - a == 1) ≡ not (a == 1)
other a h = grind (arith, nat_tests)

pub bit-and : (a b n : ℕ) → bit (bit_and a b) n ≡ (bit a n && bit b n)
bit-and a b n = rw (bit_at_and a b n) (both _ _ (bit_at-lt a n) (bit_at-lt b n))

pub bit-or : (a b n : ℕ) → bit (bit_or a b) n ≡ (bit a n || bit b n)
bit-or a b n = rw (bit_at_or a b n) (either _ _ (bit_at-lt a n) (bit_at-lt b n))

pub bit-not : (a n : ℕ) → a < 2 ^ 64 → n < 64 → bit (2 ^ 64 - 1 - a) n ≡ not (bit a n)
bit-not a n h k = ap (λ d. d == 1) (bit_at_not w64 a n h k) ∙ other _ (bit_at-lt a n)

-- a table that agrees at each of the 64 valuations
pub is_param : (table k n : ℕ) → agree_below (bit table) (λ n. bit n k) 64 ≡ true → n < 64 → bit table n ≡ bit n k
is_param table k n all h = agree_below_at (bit table) (λ n. bit n k) 64 n all h

pub all_ones : (n : ℕ) → n < 64 → bit (2 ^ 64 - 1) n ≡ true
all_ones n h = agree_below_at (bit (2 ^ 64 - 1)) (λ n. true) 64 n refl h

pub no_ones : (n : ℕ) → bit 0 n ≡ false
no_ones n = ap (λ d. d == 1) (bit_at-zero n)

-- ---- shifts

pub bit-shr : (a j n : ℕ) → bit (a / 2 ^ j) n ≡ bit a (j + n)
bit-shr a j n = ap (λ q. q % 2 == 1) (shr-shr a j n)

-- the low 64 bits of a word are its own
low_bit : (a n : ℕ) → n < 64 → bit_at (a % 2 ^ 64) n ≡ bit_at a n
low_bit a n h = sym (bit_at_cat_low (a / 2 ^ 64) 64 (a % 2 ^ 64) n h) ∙ ap (λ m. bit_at m n) (shr_split a 64)

shifted : (a j : ℕ) → a * 2 ^ j + 0 ≡ a * 2 ^ j
shifted a j = omega arith

pub bit-shl_above : (a j n : ℕ) → n < 64 → j ≤ n → bit (a * 2 ^ j % 2 ^ 64) n ≡ bit a (n - j)
bit-shl_above a j n h le = ap (λ d. d == 1) (low_bit (a * 2 ^ j) n h ∙ sym (ap (λ m. bit_at m n) (shifted a j)) ∙ bit_at_cat_high a j 0 n (pow_pos j) le)

pub bit-shl_below : (a j n : ℕ) → n < 64 → n < j → bit (a * 2 ^ j % 2 ^ 64) n ≡ false
bit-shl_below a j n h lt = ap (λ d. d == 1) (low_bit (a * 2 ^ j) n h ∙ sym (ap (λ m. bit_at m n) (shifted a j)) ∙ bit_at_cat_low a j 0 n lt ∙ bit_at-zero n)

pub none_above : (a n : ℕ) → a < 2 ^ 64 → 64 ≤ n → bit a n ≡ false
none_above a n h le = ap (λ d. d == 1) (bit_at_above a 64 n h le)

-- ---- differing bits

odd_sum : (a b : ℕ) → a < 2 → b < 2 → ((a + b) % 2 == 1) ≡ not (beq (a == 1) (b == 1))
odd_sum zero zero h k = refl
odd_sum zero (suc zero) h k = refl
odd_sum (suc zero) zero h k = refl
odd_sum (suc zero) (suc zero) h k = refl
odd_sum zero (suc (suc b)) h k = absurd (omega arith)
odd_sum (suc zero) (suc (suc b)) h k = absurd (omega arith)
odd_sum (suc (suc a)) b h k = absurd (omega arith)

bit-xor : (a b n : ℕ) → bit (bit_xor a b) n ≡ not (beq (bit a n) (bit b n))
bit-xor a b n = ap (λ d. d == 1) (bit_at_xor a b n) ∙ odd_sum (bit_at a n) (bit_at b n) (bit_at-lt a n) (bit_at-lt b n)

differ : (x y : Bool) → not (beq x y) ≡ true → x ≡ y → ⊥
differ true true e same = both_ways false refl e
differ true false e same = both_ways true same refl
differ false true e same = both_ways false refl same
differ false false e same = both_ways false refl e

alike : (x y : Bool) → not (beq x y) ≡ false → x ≡ y
alike true true e = refl
alike true false e = e
alike false true e = sym e
alike false false e = refl

pub xor_differs : (a b n : ℕ) → bit (bit_xor a b) n ≡ true → bit a n ≡ bit b n → ⊥
xor_differs a b n e = differ (bit a n) (bit b n) (sym (bit-xor a b n) ∙ e)

pub xor_alike : (a b n : ℕ) → bit (bit_xor a b) n ≡ false → bit a n ≡ bit b n
xor_alike a b n e = alike (bit a n) (bit b n) (sym (bit-xor a b n) ∙ e)
