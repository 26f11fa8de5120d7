-- What each step on the word of a set does to the set.
use Rattle.std.specs.Prelude.{◌≡◌, ℕ, ◌+◌, ◌-◌, ◌*◌, ◌/◌, ◌%◌, ◌^◌, ◌<◌, ◌≤◌, true, false, cond, not, ◌==◌, ◌&&◌, ◌||◌, refl, nat_lt, bit_and, bit_or, count_ones}
use Rattle.std.proofs.Common.{suc, zero, inl, inr, sym, ◌∙◌, ap, arith}
use Rattle.std.specs.Ordering.{nat_cmp}
use Rattle.std.specs.Int.{bit_at, bit_not, trailing_zeros, w128}
use Rattle.std.specs.FinSet.{FinSet, empty, insert, remove, union, is_subset, contains, contains-empty, contains-insert, contains-remove, contains-union, contains-difference, difference, is_subset-contains, contains-is_subset, len, len-insert, len-empty, same_set, nat_cmp-IsAntisymmetric}
use Rattle.std.specs.Cmp.{nat_cmp_total, unsigned_tied}
use Rattle.std.specs.Ordering.{eq_by_cmp}
use Rattle.std.proofs.lemmas.Nat.{or_lt}
use Rattle.std.proofs.lemmas.Nat.Bits.{bit_at-zero, bit_at-trailing_zeros, bit_at_set_same, bit_at_set_other, bit_at_clear_same, bit_at_clear_other, shr_and_one, bit_at-lt}
use Rattle.std.proofs.lemmas.Bool.Decides.{eqb_tells, same_from_decides, Decides-eqb}
use Rattle.std.proofs.lemmas.Bool.{cases_lt, and_right, ne_eqb, both_ways, le-ltb}
use Rattle.std.proofs.Math.Arith.{mod-mul}
use Rattle.std.specs.Int.Bits.{and_lt}
use native.Mathlib.Nat.{pow-suc, mul_comm, le_refl, mod-lt, mod-one, mod-eq_of_lt}
use Rattle.std.specs.Int.Count.{ones_cat, ones, ones_in}
use Rattle.cpog_defs.specs.Codes.{bit}
use Rattle.cpog_base.specs.BitLaws.{bit-zero, bit-and, bit-or, bit-not, kept_out, none_out, same_words}
use Rattle.cpog_base.specs.OpSet.{set_below, set_of, word_of}
use Rattle.cpog_base.specs.OpSetLaws.{word_below-set_below, contains-inside, contains-outside}
use Rattle.cpog_base.specs.Members.{IsFirst}

-- a word stands for a set that has the same members
pub set_of-is : (n : ℕ) (s : FinSet nat_cmp)
    → ((q : ℕ) → q < 128 → contains s q ≡ (bit_at n q == 1))
    → ((q : ℕ) → 128 ≤ q → contains s q ≡ false)
    → set_of n ≡ s
set_of-is n s inside outside = same_set nat_cmp_total nat_cmp-IsAntisymmetric (set_of n) s (λ q. elim (cases_lt q 128) [
  | inl lt ↦ contains-inside 128 n q lt ∙ sym (inside q lt)
  | inr le ↦ contains-outside 128 n q le ∙ sym (outside q le)
])

pub read_bit : (n v : ℕ) → v < 128 → (bit_and (n / 2 ^ v) 1 == 1) ≡ contains (set_of n) v
read_bit n v h = ap (λ b. b == 1) (shr_and_one n v) ∙ sym (contains-inside 128 n v h)

pub set_of-zero : set_of 0 ≡ empty
set_of-zero = set_of-is 0 empty (λ q _. contains-empty nat_cmp q ∙ ap (λ b. b == 1) (sym (bit_at-zero q))) (λ q _. contains-empty nat_cmp q)

pub none-set_of : (n : ℕ) → n < 2 ^ 128 → set_of n ≡ empty → n ≡ 0
none-set_of n l none =
    let back : word_of (set_of n) ≡ word_of (set_of 0) = ap word_of (none ∙ sym set_of-zero) in
    sym (word_below-set_below 128 n l) ∙ back ∙ word_below-set_below 128 0 (omega arith)

pub set_of-insert : (n v : ℕ) → v < 128 → set_of (bit_or n (1 * 2 ^ v % 2 ^ 128)) ≡ insert (set_of n) v
set_of-insert n v h = set_of-is (bit_or n (1 * 2 ^ v % 2 ^ 128)) (insert (set_of n) v)
    (λ q lt. contains-insert nat_cmp_total (set_of n) v q ∙ ap (λ b. b || contains (set_of n) q) (unsigned_tied q v) ∙ elim (eqb_tells q v) [
      | inl p ↦ rw p.0 (rw p.1 (sym (ap (λ b. b == 1) (bit_at_set_same w128 n v h))))
      | inr p ↦ rw p.0 (contains-inside 128 n q lt ∙ sym (ap (λ b. b == 1) (bit_at_set_other w128 n v h q p.1)))
    ])
    (λ q le. contains-insert nat_cmp_total (set_of n) v q ∙ ap (λ b. b || contains (set_of n) q) (unsigned_tied q v) ∙ elim (eqb_tells q v) [
      | inl p ↦ absurd (let e : q ≡ v = p.1 in omega arith)
      | inr p ↦ rw p.0 (contains-outside 128 n q le)
    ])

pub word-insert-lt : (n v : ℕ) → v < 128 → n < 2 ^ 128 → bit_or n (1 * 2 ^ v % 2 ^ 128) < 2 ^ 128
word-insert-lt n v h lt = or_lt 128 n (1 * 2 ^ v % 2 ^ 128) lt (omega arith)

pub set_of-remove : (n v : ℕ) → v < 128 → set_of (bit_and n (2 ^ 128 - 1 - 1 * 2 ^ v % 2 ^ 128)) ≡ remove (set_of n) v
set_of-remove n v h = set_of-is (bit_and n (2 ^ 128 - 1 - 1 * 2 ^ v % 2 ^ 128)) (remove (set_of n) v)
    (λ q lt. contains-remove nat_cmp_total (set_of n) v q ∙ ap (λ b. not b && contains (set_of n) q) (unsigned_tied q v) ∙ elim (eqb_tells q v) [
      | inl p ↦ rw p.0 (rw p.1 (sym (ap (λ b. b == 1) (bit_at_clear_same w128 n v h))))
      | inr p ↦ rw p.0 (contains-inside 128 n q lt ∙ sym (ap (λ b. b == 1) (bit_at_clear_other w128 n v h q lt p.1)))
    ])
    (λ q le. contains-remove nat_cmp_total (set_of n) v q ∙ ap (λ b. not (eq_by_cmp nat_cmp q v) && b) (contains-outside 128 n q le) ∙ and_right (not (eq_by_cmp nat_cmp q v)) false refl)

pub remove-outside : (n v : ℕ) → 128 ≤ v → set_of n ≡ remove (set_of n) v
remove-outside n v h = set_of-is n (remove (set_of n) v)
    (λ q lt. contains-remove nat_cmp_total (set_of n) v q ∙ ap (λ b. not b && contains (set_of n) q) (unsigned_tied q v ∙ ne_eqb q v (λ e. absurd (omega arith))) ∙ contains-inside 128 n q lt)
    (λ q le. contains-remove nat_cmp_total (set_of n) v q ∙ ap (λ b. not (eq_by_cmp nat_cmp q v) && b) (contains-outside 128 n q le) ∙ and_right (not (eq_by_cmp nat_cmp q v)) false refl)

pub set_of-union : (m n : ℕ) → set_of (bit_or m n) ≡ union (set_of m) (set_of n)
set_of-union m n = set_of-is (bit_or m n) (union (set_of m) (set_of n))
    (λ q lt. contains-union nat_cmp_total (set_of m) (set_of n) q ∙ rw (contains-inside 128 m q lt, contains-inside 128 n q lt) (sym (bit-or m n q)))
    (λ q le. contains-union nat_cmp_total (set_of m) (set_of n) q ∙ rw (contains-outside 128 m q le, contains-outside 128 n q le) refl)

-- bit i of a & !b
cut_bit : (m n i : ℕ) → n < 2 ^ 128 → i < 128 → bit (bit_and m (2 ^ 128 - 1 - n)) i ≡ (bit m i && not (bit n i))
cut_bit m n i hn lt = bit-and m (bit_not w128 n) i ∙ ap (λ k. bit m i && k) (bit-not w128 n i hn lt)

pub set_of-difference : (m n : ℕ) → n < 2 ^ 128 → set_of (bit_and m (2 ^ 128 - 1 - n)) ≡ difference (set_of m) (set_of n)
set_of-difference m n hn = set_of-is (bit_and m (2 ^ 128 - 1 - n)) (difference (set_of m) (set_of n))
    (λ q lt. contains-difference nat_cmp_total (set_of m) (set_of n) q ∙ rw (contains-inside 128 m q lt, contains-inside 128 n q lt) (sym (cut_bit m n q hn lt)))
    (λ q le. contains-difference nat_cmp_total (set_of m) (set_of n) q ∙ rw (contains-outside 128 m q le) refl)

subset_from_word : (m n : ℕ) → n < 2 ^ 128 → bit_and m (2 ^ 128 - 1 - n) ≡ 0 → (q : ℕ) → contains (set_of m) q ≡ true → contains (set_of n) q ≡ true
subset_from_word m n hn none q one = elim (cases_lt q 128) [
  | inl lt ↦ contains-inside 128 n q lt
      ∙ kept_out (bit m q) (bit n q) (sym (cut_bit m n q hn lt) ∙ ap (λ k. bit k q) none ∙ bit-zero q) (sym (contains-inside 128 m q lt) ∙ one)
  | inr le ↦ absurd (both_ways _ (contains-outside 128 m q le) one)
]

word_from_subset : (m n : ℕ) → m < 2 ^ 128 → n < 2 ^ 128 → ((q : ℕ) → contains (set_of m) q ≡ true → contains (set_of n) q ≡ true) → bit_and m (2 ^ 128 - 1 - n) ≡ 0
word_from_subset m n hm hn each = same_words 128 (bit_and m (2 ^ 128 - 1 - n)) 0 (and_lt 128 m (2 ^ 128 - 1 - n) hm (omega arith)) (omega arith)
    (λ i lt. cut_bit m n i hn lt
    ∙ none_out (bit m i) (bit n i) (λ one. sym (contains-inside 128 n i lt) ∙ each i (contains-inside 128 m i lt ∙ one))
    ∙ sym (bit-zero i))

pub set_of-subset : (m n : ℕ) → m < 2 ^ 128 → n < 2 ^ 128 → (bit_and m (2 ^ 128 - 1 - n) == 0) ≡ is_subset (set_of m) (set_of n)
set_of-subset m n hm hn = same_from_decides (bit_and m (2 ^ 128 - 1 - n) == 0) (is_subset (set_of m) (set_of n)) (Decides-eqb (bit_and m (2 ^ 128 - 1 - n)) 0) (
  (λ all. word_from_subset m n hm hn (is_subset-contains nat_cmp_total (set_of m) (set_of n) all)),
  (λ none. contains-is_subset nat_cmp_total (set_of m) (set_of n) (subset_from_word m n hn none)),
)

-- the highest of w + 1 digits
top_digit : (w n : ℕ) → 0 < 2 ^ w → bit_at n w * 2 ^ w + n % 2 ^ w ≡ n % 2 ^ suc w
top_digit w n pos = sym (rw (pow-suc, mul_comm (2 ^ w) 2) (mod-mul n {m = 2} {c = 2 ^ w} (omega arith) pos))

one_digit : (b : ℕ) → b < 2 → count_ones b ≡ cond (b == 1) 1 0
unfolding ones ones_in
one_digit zero h = refl
one_digit (suc zero) h = refl
one_digit (suc (suc b)) h = absurd (omega arith)

len_more : (w n : ℕ) → len (set_below (suc w) n) ≡ cond (bit_at n w == 1) 1 0 + len (set_below w n)
unfolding set_below
len_more w n = elim (bit_at n w == 1) as (λ b. len (cond b (insert (set_below w n) w) (set_below w n)) ≡ cond b 1 0 + len (set_below w n)) [
  | true ↦ len-insert nat_cmp_total (set_below w n) w ∙ (let none : contains (set_below w n) w ≡ false = contains-outside w n w (le_refl w) in rw none (omega arith))
  | false ↦ omega arith
]

no_digit : count_ones 0 ≡ 0
unfolding ones ones_in
no_digit = refl

pow_pos : (w : ℕ) → 0 < 2 ^ w
pow_pos zero = omega arith
pow_pos (suc w) = rw pow-suc (let h = pow_pos w in omega (arith, h))

pub len-set_below : (w n : ℕ) → len (set_below w n) ≡ count_ones (n % 2 ^ w)
unfolding set_below
len-set_below zero n = len-empty nat_cmp ∙ sym no_digit ∙ ap count_ones (sym (mod-one n))
len-set_below (suc w) n =
    len_more w n
    ∙ ap (λ k. cond (bit_at n w == 1) 1 0 + k) (len-set_below w n)
    ∙ ap (λ k. k + count_ones (n % 2 ^ w)) (sym (one_digit (bit_at n w) (bit_at-lt n w)))
    ∙ sym (ones_cat w (bit_at n w) (n % 2 ^ w) (mod-lt n (pow_pos w)))
    ∙ ap count_ones (top_digit w n (pow_pos w))

pub count-set_of : (n : ℕ) → n < 2 ^ 128 → count_ones n ≡ len (set_of n)
count-set_of n h = ap count_ones (sym (mod-eq_of_lt h)) ∙ sym (len-set_below 128 n)

pub no_high : (n v : ℕ) → 128 ≤ v → nat_lt v 128 ≡ contains (set_of n) v
no_high n v h = le-ltb v 128 h ∙ sym (contains-outside 128 n v h)

pub word-union-lt : (m n : ℕ) → m < 2 ^ 128 → n < 2 ^ 128 → bit_or m n < 2 ^ 128
word-union-lt m n hm hn = or_lt 128 m n hm hn

-- the lowest 1 of a word stands at the least member
pub first-set_of : (n : ℕ) → 0 < n → n < 2 ^ 128 → IsFirst (set_of n) (trailing_zeros w128 n)
first-set_of n some lt =
    let low = bit_at-trailing_zeros w128 n some lt in
    record {
      member = contains-inside 128 n (trailing_zeros w128 n) low.0 ∙ ap (λ b. b == 1) low.1;
      least = λ u before. contains-inside 128 n u (omega (arith, low.0, before)) ∙ ap (λ b. b == 1) (low.2 u before);
    }
