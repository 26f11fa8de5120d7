-- Least numbers of bits.
use Rattle.std.proofs.Common.{◌≡◌, ℕ, max, ◌+◌, ◌^◌, ◌<◌, ◌≤◌, inl, inr, arith}
use Rattle.std.proofs.lemmas.Bool.{cases_lt}
use Rattle.std.proofs.Math.Pow.{pow_mono}
use Rattle.opcode_assign.specs.Bits.{IsLeastBits}

-- one bit fewer has too few codes
pub least_bits : (scenarios b : ℕ) → 2 ^ b < scenarios → scenarios ≤ 2 ^ (b + 1) → IsLeastBits 0 scenarios (b + 1)
least_bits scenarios b above enough = record {
  some = omega arith;
  enough = enough;
  least = λ k some' fit. elim (cases_lt k (b + 1)) [
    | inl l ↦ (let low : 2 ^ k ≤ 2 ^ b = pow_mono (omega (arith, l)) in absurd (omega (arith, low, above, fit)))
    | inr g ↦ omega (arith, g)
  ];
}

-- the greater of the least number and of that from which on they count
pub least_from : (from scenarios bits result : ℕ) → IsLeastBits 0 scenarios bits → result ≡ max bits from → IsLeastBits from scenarios result
least_from from scenarios bits result h is = record {
  some = omega (arith, is);
  enough = (let more : 2 ^ bits ≤ 2 ^ result = pow_mono (omega (arith, is)) in omega (arith, h.enough, more));
  least = λ k some fit. omega (arith, is, h.least k (omega arith) fit, some);
}
