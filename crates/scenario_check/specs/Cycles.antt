-- The first scenario of a list that has an operation before itself.
use Rattle.std.specs.Prelude.{◌≡◌, ℕ, ◌<◌, List, slice_get, Some, IsSomeAnd}
use Rattle.cpog_defs.specs.Scenarios.{Scenario, IsBefore, IsLeastCyclic}

-- scenario s is the first that has an operation before itself, and v is its least
pub record IsFirstCyclic (scenarios : List Scenario) (s v : ℕ) : Type 0 where
  pub here : IsSomeAnd (slice_get scenarios s) (λ sc. IsLeastCyclic sc v)
  pub earlier : (t w : ℕ) (sc : Scenario) → t < s → slice_get scenarios t ≡ Some sc → IsBefore sc w w → ⊥
