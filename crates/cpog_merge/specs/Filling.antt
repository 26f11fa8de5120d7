-- The lists that columns are filled from.
use Rattle.std.specs.Prelude.{ℕ, List, [], ◌∷◌}
use Rattle.cpog_defs.specs.declared.types.Bit3.{Bit3}
use Rattle.cpog_defs.specs.declared.types.Place.TheVariants.{Op, Arc}
use Rattle.cpog_defs.specs.Orders.{Order, each_below}
use Rattle.cpog_defs.specs.Columns.{column}

-- the columns of the operations below n
abbrev pub op_columns_of : List Order → ℕ → List (List Bit3)
op_columns_of orders n = each_below (λ v. column orders (Op (record { 0 = v })) ∷ []) n

-- the columns of the pairs into v whose first is below n
abbrev pub arc_columns_into : List Order → ℕ → ℕ → List (List Bit3)
arc_columns_into orders n v = each_below (λ u. column orders (Arc (record { 0 = u }) (record { 0 = v })) ∷ []) n

-- the columns of the pairs into each operation below m, whose first is below n
abbrev pub arc_columns_of : List Order → ℕ → ℕ → List (List Bit3)
arc_columns_of orders n m = each_below (arc_columns_into orders n) m
