-- Columns that need different signals, and how many places have such columns.
use Rattle.std.specs.Prelude.{◌↔◌, ℕ, ◌<◌, List, [], length, slice_index_or}
use Rattle.std.specs.List.{All, AllPairs, Contains}
use Rattle.cpog_base.specs.Column.{AgreesSomewhere, DiffersSomewhere}
use Rattle.cpog_defs.specs.declared.types.Bit3.{Bit3}
use Rattle.cpog_defs.specs.declared.types.Place.{Place}
use Rattle.cpog_defs.specs.declared.types.Place.TheVariants.{Op}
use Rattle.cpog_defs.specs.Orders.{Order}
use Rattle.cpog_defs.specs.Graphs.{IsPlace}
use Rattle.cpog_defs.specs.Columns.{column}
use Rattle.gate_core.specs.Columns.{IsOpenColumn}
use Rattle.cpog_merge.specs.Classes.{Classes}

-- two columns that agree at one scenario and differ at another
pub record AreIncompatible (a b : List Bit3) : Type 0 where
  pub agree : AgreesSomewhere a b
  pub differ : DiffersSomewhere a b

-- places whose columns are open, and any two of whose columns are incompatible
pub record IsCountEvidence (operations : ℕ) (orders : List Order) (places : List Place) : Type 0 where
  pub places_are : All (IsPlace operations) places
  pub open_columns : All (λ p. IsOpenColumn (length orders) (column orders p)) places
  pub apart : AllPairs (λ p q. AreIncompatible (column orders p) (column orders q)) places

-- the column of this number
abbrev pub column_of : List (List Bit3) → ℕ → List Bit3
column_of columns c = slice_index_or columns c []

-- of the first n columns, in order, exactly those that are incompatible with each earlier one among them
pub record AreTaken (columns : List (List Bit3)) (n : ℕ) (taken : List ℕ) : Type 0 where
  pub in_order : AllPairs (λ s t. s < t) taken
  pub exactly : (c : ℕ) → Contains taken c ↔
      ((c < n) × ((t : ℕ) → Contains taken t → t < c → AreIncompatible (column_of columns t) (column_of columns c)))

-- of all columns, taken in order, those that are incompatible with all that are taken before them
abbrev pub IsIncompatibleSet : List (List Bit3) → List ℕ → Type 0
IsIncompatibleSet columns taken = AreTaken columns (length columns) taken

-- the place of a class
abbrev pub place_at : Classes → ℕ → Place
place_at list c = slice_index_or list.places c (Op (record { 0 = 0 }))
