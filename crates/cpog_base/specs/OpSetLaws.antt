-- A word stands for the set of its bits, and comes back from it.
use Rattle.std.specs.Prelude.{◌≡◌, ◌≢◌, ℕ, ◌+◌, ◌*◌, ◌^◌, ◌<◌, ◌≤◌, Bool, true, false, cond, ◌==◌, ◌||◌, refl}
use Rattle.std.proofs.Common.{suc, zero, inl, inr, sym, ◌∙◌, ap, arith}
use Rattle.std.specs.Ordering.{nat_cmp}
use Rattle.std.specs.Int.{bit_at}
use Rattle.std.specs.FinSet.{FinSet, insert, contains, contains-empty, contains-insert}
use Rattle.std.specs.Cmp.{nat_cmp_total, unsigned_tied}
use Rattle.std.proofs.lemmas.Nat.Bits.{bit_at_cat_low, bit_at_cat_high, bit_at-lt, same_from_bits_below}
use Rattle.std.proofs.lemmas.Bool.Decides.{eqb_tells}
use native.Mathlib.Nat.{pow-suc, le_refl, sub_self}
use Rattle.cpog_base.specs.OpSet.{set_below, word_below}

-- ---- the members of a word's set

one_more : (w n q : ℕ) → contains (set_below (suc w) n) q ≡ cond (bit_at n w == 1) ((q == w) || contains (set_below w n) q) (contains (set_below w n) q)
unfolding set_below
one_more w n q =
    elim (bit_at n w == 1) as (λ b. contains (cond b (insert (set_below w n) w) (set_below w n)) q ≡ cond b ((q == w) || contains (set_below w n) q) (contains (set_below w n) q)) [
      | true ↦ contains-insert nat_cmp_total (set_below w n) w q ∙ ap (λ b. b || contains (set_below w n) q) (unsigned_tied q w)
      | false ↦ refl
    ]

pass_by : (a b : Bool) → cond a (false || b) b ≡ b
pass_by true b = refl
pass_by false b = refl

taken : (a b : Bool) → b ≡ false → cond a (true || b) b ≡ a
taken true b h = refl
taken false b h = h

pub contains-outside : (w n q : ℕ) → w ≤ q → contains (set_below w n) q ≡ false
unfolding set_below
contains-outside zero n q h = contains-empty nat_cmp q
contains-outside (suc w) n q h =
    let ih : contains (set_below w n) q ≡ false = contains-outside w n q (omega arith) in
    elim (eqb_tells q w) [
      | inl p ↦ absurd (let e : q ≡ w = p.1 in omega arith)
      | inr p ↦ one_more w n q ∙ rw p.0 (pass_by (bit_at n w == 1) (contains (set_below w n) q) ∙ ih)
    ]

pub contains-inside : (w n q : ℕ) → q < w → contains (set_below w n) q ≡ (bit_at n q == 1)
contains-inside zero n q h = absurd (omega arith)
contains-inside (suc w) n q h = elim (eqb_tells q w) [
  | inl p ↦ one_more w n q ∙ rw p.0 (taken (bit_at n w == 1) _ (contains-outside w n q (let e : q ≡ w = p.1 in omega arith)) ∙ ap (λ k. bit_at n k == 1) (sym p.1))
  | inr p ↦ one_more w n q ∙ rw p.0 (pass_by (bit_at n w == 1) (contains (set_below w n) q) ∙ contains-inside w n q (let e : q ≢ w = p.1 in omega arith))
]

-- ---- and back

digit-lt : (b : Bool) → cond b 1 0 < 2
digit-lt true = omega arith
digit-lt false = omega arith

word-lt : (d p r : ℕ) → d < 2 → r < p → d * p + r < p * 2
word-lt d p r hd hr = grind arith

word_below-lt : (w : ℕ) (s : FinSet nat_cmp) → word_below w s < 2 ^ w
unfolding word_below
word_below-lt zero s = omega arith
word_below-lt (suc w) s = rw pow-suc (word-lt (cond (contains s w) 1 0) (2 ^ w) (word_below w s) (digit-lt (contains s w)) (word_below-lt w s))

bit_of_digit : (b : Bool) → bit_at (cond b 1 0) 0 ≡ cond b 1 0
bit_of_digit true = refl
bit_of_digit false = refl

-- each bit of the word says whether the number is a member
pub bit_at-word_below : (w : ℕ) (s : FinSet nat_cmp) (q : ℕ) → q < w → bit_at (word_below w s) q ≡ cond (contains s q) 1 0
unfolding word_below
bit_at-word_below zero s q h = absurd (omega arith)
bit_at-word_below (suc w) s q h = elim (eqb_tells q w) [
  | inl p ↦ rw p.1 (bit_at_cat_high (cond (contains s w) 1 0) w (word_below w s) w (word_below-lt w s) (le_refl w) ∙ rw sub_self (bit_of_digit (contains s w)))
  | inr p ↦ bit_at_cat_low (cond (contains s w) 1 0) w (word_below w s) q (let e : q ≢ w = p.1 in omega arith) ∙ bit_at-word_below w s q (let e : q ≢ w = p.1 in omega arith)
]

digit_again : (d : ℕ) → d < 2 → cond (d == 1) 1 0 ≡ d
digit_again d h = grind arith

pub word_below-set_below : (w n : ℕ) → n < 2 ^ w → word_below w (set_below w n) ≡ n
word_below-set_below w n h =
    same_from_bits_below w (word_below w (set_below w n)) n (word_below-lt w (set_below w n)) h
    (λ i lt. bit_at-word_below w (set_below w n) i lt ∙ ap (λ b. cond b 1 0) (contains-inside w n i lt) ∙ digit_again (bit_at n i) (bit_at-lt n i))
