-- The valuations of six parameters, of which there are 2 ^ 6 = 64, as numbers: bit k of a valuation is the bit of parameter k. Bit n of a table is
-- the value under valuation n.
use Rattle.std.specs.Prelude.{◌≡◌, ◌≢◌, ℕ, ◌<◌, ◌^◌, Bool, true, false, bit_xor, if◌then◌else◌}
use Rattle.cpog_defs.specs.Codes.{bit}

-- the valuation that differs in parameter k alone
abbrev pub flip : ℕ → ℕ → ℕ
flip n k = bit_xor n (2 ^ k)

-- the valuation with parameter k set to this bit
abbrev pub with_param : ℕ → ℕ → Bool → ℕ
with_param n k true = if bit n k then n else flip n k
with_param n k false = if bit n k then flip n k else n

-- some valuation's value changes with parameter k
pub record Changes (table k : ℕ) : Type 0 where
  pub valuation : ℕ
  pub below : valuation < 64
  pub differs : bit table valuation ≢ bit table (flip valuation k)

-- no valuation's value does
abbrev pub Stays : ℕ → ℕ → Type 0
Stays table k = (n : ℕ) → n < 64 → bit table n ≡ bit table (flip n k)
