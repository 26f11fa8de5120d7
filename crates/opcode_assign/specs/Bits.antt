-- How many bits tell scenarios apart.
use Rattle.std.specs.Prelude.{ℕ, ◌≤◌, ◌^◌}

-- the least number of bits, of those from a number on, that have a code for each of so many scenarios
pub record IsLeastBits (from scenarios bits : ℕ) : Type 0 where
  pub some : from ≤ bits
  pub enough : scenarios ≤ 2 ^ bits
  pub least : (k : ℕ) → from ≤ k → scenarios ≤ 2 ^ k → bits ≤ k
