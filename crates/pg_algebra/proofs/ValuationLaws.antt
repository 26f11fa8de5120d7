-- A valuation's number and its bits.
use Rattle.std.specs.Prelude.{◌≡◌, ◌≢◌, refl, ℕ, ◌+◌, ◌*◌, ◌/◌, ◌%◌, ◌^◌, ◌<◌, ◌==◌, Bool, true, false, not, bit_and}
use Rattle.std.proofs.Common.{zero, suc, ap, ◌∙◌, arith}
use Rattle.std.specs.Int.{bit_at}
use Rattle.std.specs.Int.Bits.{xor_disjoint, xor_add_and}
use Rattle.std.proofs.Math.Nat.{add-div_left}
use Rattle.std.proofs.lemmas.Nat.{xor_lt, pow_below, pow_pos}
use Rattle.std.proofs.lemmas.Nat.Bits.{bit_at_xor, bit_at-pow_same, bit_at-pow_other, bit_at-lt, and_pow}
use Rattle.std.proofs.lemmas.Bool.{cond-true, cond-false, cond_both, eqb-true, eqb-false}
use Rattle.std.proofs.lemmas.Bool.Decides.{nat_tests}
use Rattle.cpog_defs.specs.Codes.{bit}
use Rattle.pg_algebra.specs.Tables.{flip, with_param}
use Rattle.pg_algebra.specs.Laws.{ValuationsAreNumbered}

turned : (b : ℕ) → b < 2 → ((b + 1) % 2 == 1) ≡ not (b == 1)
turned zero h = refl
turned (suc zero) h = refl
turned (suc (suc b)) h = absurd (omega arith)

kept : (b : ℕ) → b < 2 → (b + 0) % 2 ≡ b
kept zero h = refl
kept (suc zero) h = refl
kept (suc (suc b)) h = absurd (omega arith)

pub flip-one : (n k : ℕ) → bit (flip n k) k ≡ not (bit n k)
flip-one n k = rw (bit_at_xor n (2 ^ k) k, bit_at-pow_same k) (turned (bit_at n k) (bit_at-lt n k))

pub flip-others : (n k j : ℕ) → j ≢ k → bit (flip n k) j ≡ bit n j
flip-others n k j ne = ap (λ b. b == 1) (bit_at_xor n (2 ^ k) j ∙ ap (λ b. (bit_at n j + b) % 2) (bit_at-pow_other k j ne) ∙ kept (bit_at n j) (bit_at-lt n j))

pub flip-below : (n k : ℕ) → k < 6 → n < 64 → flip n k < 64
flip-below n k h hn = xor_lt 6 n (2 ^ k) hn (pow_below k 6 h)

pub set_is_same : (n k : ℕ) (b : Bool) → bit n k ≡ b → with_param n k b ≡ n
set_is_same n k true is = cond-true (bit n k) n (flip n k) is
set_is_same n k false is = cond-false (bit n k) (flip n k) n is

pub set_is_flip : (n k : ℕ) (b : Bool) → bit n k ≡ not b → with_param n k b ≡ flip n k
set_is_flip n k true is = cond-false (bit n k) n (flip n k) is
set_is_flip n k false is = cond-true (bit n k) (flip n k) n is

-- what holds of a valuation and of the one with parameter k turned holds of the one with it set
set_both : (n k : ℕ) (b : Bool) (P : ℕ → Type 0) → P n → P (flip n k) → P (with_param n k b)
set_both n k true P same turned = cond_both (bit n k) n (flip n k) P (λ _. same) (λ _. turned)
set_both n k false P same turned = cond_both (bit n k) (flip n k) n P (λ _. turned) (λ _. same)

set-one : (n k : ℕ) (b : Bool) → bit (with_param n k b) k ≡ b
set-one n k true = cond_both (bit n k) n (flip n k) (λ m. bit m k ≡ true) (λ is. is) (λ is. flip-one n k ∙ ap not is)
set-one n k false = cond_both (bit n k) (flip n k) n (λ m. bit m k ≡ false) (λ is. flip-one n k ∙ ap not is) (λ is. is)

pub valuations_are_numbered : ValuationsAreNumbered
valuations_are_numbered = record {
  flip_one = flip-one;
  flip_others = flip-others;
  flip_below = flip-below;
  set_one = set-one;
  set_others = λ n k j b ne. set_both n k b (λ m. bit m j ≡ bit n j) refl (flip-others n k j ne);
  set_below = λ n k b h hn. set_both n k b (λ m. m < 64) hn (flip-below n k h hn);
}

-- ---- to turn a parameter is to add its weight, or to take it away

no_bit : (n k : ℕ) → bit n k ≡ false → bit_at n k ≡ 0
no_bit n k is = let e = eqb-false (bit_at n k) 1 is in let below = bit_at-lt n k in omega (arith, e, below)

pub flip-up : (n k : ℕ) → bit n k ≡ false → flip n k ≡ 2 ^ k + n
flip-up n k is = xor_disjoint n (2 ^ k) (and_pow n k ∙ ap (λ b. b * 2 ^ k) (no_bit n k is) ∙ omega arith) ∙ omega arith

pub flip-down : (n k : ℕ) → bit n k ≡ true → 2 ^ k + flip n k ≡ n
flip-down n k is =
    let whole = xor_add_and n (2 ^ k) in
    let shared : bit_and n (2 ^ k) ≡ 2 ^ k = and_pow n k ∙ ap (λ b. b * 2 ^ k) (eqb-true (bit_at n k) 1 is) ∙ omega arith in
    omega (arith, whole, shared)

next_odd : (q : ℕ) → ((q + 1) % 2 == 1) ≡ not (q % 2 == 1)
next_odd q = grind (arith, nat_tests)

-- to add the weight of a parameter turns its bit
pub turned_by_weight : (n k : ℕ) → bit (2 ^ k + n) k ≡ not (bit n k)
turned_by_weight n k = ap (λ q. q % 2 == 1) (add-div_left n (pow_pos k)) ∙ next_odd (n / 2 ^ k)
