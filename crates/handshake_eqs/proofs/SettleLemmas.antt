-- Tests of all or some numbers below a count, as a loop finds them.
use Rattle.std.proofs.Common.{◌≡◌, ℕ, ◌+◌, ◌<◌, Bool, true, false, not, ◌&&◌, ◌||◌, refl, inl, inr, arith}
use Rattle.std.proofs.lemmas.Bool.{cases_eq, both_ways, false_from_ne_true}
use Rattle.cpog_defs.specs.Orders.{any_below, all_below}
use Rattle.handshake_eqs.proofs.NetlistLemmas.{all_tells, any_tells}

-- one more that passes
pub all_next : (p : ℕ → Bool) (n : ℕ) → all_below p n ≡ true → p n ≡ true → all_below p (n + 1) ≡ true
all_next p n all one = (all_tells p (n + 1)).1 (λ z l. elim (cases_eq z n) [
  | inl same ↦ rw same one
  | inr other ↦ (all_tells p n).0 all z (omega (arith, l, other))
])

-- one that doesn't pass
pub all_fails : (p : ℕ → Bool) (n z : ℕ) → z < n → p z ≡ false → all_below p n ≡ false
all_fails p n z l none = false_from_ne_true _ (λ t. both_ways _ none ((all_tells p n).0 t z l))

pub any_next : (p : ℕ → Bool) (n : ℕ) → any_below p n ≡ false → p n ≡ false → any_below p (n + 1) ≡ false
any_next p n none one = false_from_ne_true _ (λ t. let x = (any_tells p (n + 1)).0 t in elim (cases_eq x.0 n) [
  | inl same ↦ both_ways _ one (rw same at x.2)
  | inr other ↦ both_ways _ none ((any_tells p n).1 (x.0, omega (arith, x.1, other), x.2))
])

pub any_found : (p : ℕ → Bool) (n z : ℕ) → z < n → p z ≡ true → any_below p n ≡ true
any_found p n z l one = (any_tells p n).1 (z, l, one)

-- not acknowledged, and there
pub neither : (a c : Bool) → a ≡ false → c ≡ true → (a || not c) ≡ false
neither a c p q = rw (p, q) refl

-- waited for, not acknowledged, there and with its arc there
pub unsatisfied : (w a k r : Bool) → w ≡ true → a ≡ false → k ≡ true → r ≡ true → (not w || (a || (not k || not r))) ≡ false
unsatisfied w a k r p q s t = rw (p, q, s, t) refl

pub with_true : (b c : Bool) → b ≡ true → c ≡ (b && c)
with_true b c p = rw p refl

pub with_false : (b c : Bool) → b ≡ false → false ≡ (b && c)
with_false b c p = rw p refl
