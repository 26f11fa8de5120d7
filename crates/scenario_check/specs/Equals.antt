-- Which scenarios of a list are equal.
use Rattle.std.specs.Prelude.{ℕ, ◌<◌, List, slice_get, Option, None, Some, IsSomeAnd}
use Rattle.cpog_defs.specs.declared.types.ScenId.{ScenId}
use Rattle.cpog_defs.specs.Orders.{Order, AreEqual}

-- the scenario at a place is equal to this one
abbrev pub EqualsAt : List Order → Order → ℕ → Type 0
EqualsAt orders o s = IsSomeAnd (slice_get orders s) (λ a. AreEqual a o)

-- none at the places below n is equal to this one
abbrev pub NoneEqualBelow : List Order → Order → ℕ → Type 0
NoneEqualBelow orders o n = (s : ℕ) → s < n → EqualsAt orders o s → ⊥

-- two places, the earlier below the later, whose scenarios are equal
pub record AreEqualAt (orders : List Order) (later earlier : ℕ) : Type 0 where
  pub earlier_first : earlier < later
  pub equal : IsSomeAnd (slice_get orders later) (λ o. EqualsAt orders o earlier)

-- the least scenario that is equal to an earlier one, and the first that it is equal to
pub record IsFirstPair (orders : List Order) (later earlier : ℕ) : Type 0 where
  pub equal : AreEqualAt orders later earlier
  pub least : (i j : ℕ) → i < later → AreEqualAt orders i j → ⊥
  pub first : (j : ℕ) → j < earlier → AreEqualAt orders later j → ⊥

-- no two scenarios are equal
abbrev pub AreDifferent : List Order → Type 0
AreDifferent orders = (later earlier : ℕ) → AreEqualAt orders later earlier → ⊥

-- the first equal pair, or none where no two are equal
abbrev pub AreFirstEqual : List Order → Option (ScenId × ScenId) → Type 0
AreFirstEqual orders (Some p) = IsFirstPair orders p.0.0 p.1.0
AreFirstEqual orders None = AreDifferent orders
