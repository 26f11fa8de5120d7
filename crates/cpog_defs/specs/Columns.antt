-- Columns: what the scenarios ask of one condition.
use Rattle.std.specs.Prelude.{ℕ, ◌&&◌, if◌then◌else◌, List, map}
use Rattle.cpog_defs.specs.declared.types.Bit3.{Bit3}
use Rattle.cpog_defs.specs.declared.types.Bit3.TheVariants.{Zero, One, Free}
use Rattle.cpog_defs.specs.declared.types.Place.{Place}
use Rattle.cpog_defs.specs.declared.types.Place.TheVariants.{Op, Arc}
use Rattle.cpog_defs.specs.Orders.{Order, has, is_before, is_covered}

-- what a scenario asks of an operation's condition: 1 where it has the operation, else 0
abbrev pub op_entry : ℕ → Order → Bit3
op_entry v o = if has o v then One else Zero

-- what a scenario asks of a pair's condition: where it has both, 1 at a covering pair, 0 where u isn't before v, else nothing
abbrev pub arc_entry : ℕ → ℕ → Order → Bit3
arc_entry u v o =
    if has o u && has o v
    then (if is_covered o u v then One else (if is_before o u v then Free else Zero))
    else Free

abbrev pub entry : Place → Order → Bit3
entry (Op v) o = op_entry v.0 o
entry (Arc u v) o = arc_entry u.0 v.0 o

-- one entry a scenario
abbrev pub column : List Order → Place → List Bit3
column orders place = map (entry place) orders
