-- References that serve columns.
use Rattle.std.specs.Prelude.{◌≡◌, ℕ, List, length, slice_get, Some}
use Rattle.std.specs.List.{All}
use Rattle.cpog_defs.specs.declared.types.Bit3.{Bit3}
use Rattle.cpog_defs.specs.declared.types.Ref.{Ref}
use Rattle.cpog_defs.specs.Gates.{GateList, signal_count, IsRefOver}
use Rattle.cpog_defs.specs.Encodings.{RefAgrees}

-- there is a reference for each column, over the gates' signals, and on each code it has the value that the column
-- asks for
pub record ReferencesServe (columns : List (List Bit3)) (codes : List ℕ) (gates : GateList)
    (refs : List Ref) : Type 0 where
  pub one_each : length refs ≡ length columns
  pub over : All (IsRefOver (signal_count gates)) refs
  pub agrees : (c : ℕ) (column : List Bit3) (ref : Ref) → slice_get columns c ≡ Some column →
      slice_get refs c ≡ Some ref → RefAgrees gates codes column ref
