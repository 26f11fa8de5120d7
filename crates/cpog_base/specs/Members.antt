-- The members of a set of operations in their order.
use Rattle.std.specs.Prelude.{◌≡◌, ℕ, ◌<◌, false, IsTrue}
use Rattle.std.specs.FinSet as set
use Rattle.cpog_defs.specs.Orders.{Set}

-- a member, and no smaller number is one
pub record IsFirst (s : Set) (v : ℕ) : Type 0 where
  pub member : IsTrue (set.contains s v)
  pub least : (u : ℕ) → u < v → set.contains s u ≡ false
