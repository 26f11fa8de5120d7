-- The lists from which the classes are chosen, and the tests by which they are.
use Rattle.std.specs.Prelude.{ℕ, ◌+◌, ◌==◌, ◌<◌, Bool, IsTrue, not, true, false, ◌&&◌, ◌||◌, if◌then◌else◌, List, [], ◌∷◌, ◌++◌, length, take, drop, slice_index_or}
use Rattle.std.specs.List.{list_any, list_all, position_or_len}
use Rattle.cpog_base.specs.Column.{is_one, is_zero}
use Rattle.cpog_defs.specs.declared.types.Bit3.{Bit3}
use Rattle.cpog_defs.specs.declared.types.Bit3.TheVariants.{Zero, One, Free}
use Rattle.cpog_defs.specs.declared.types.Place.{Place}
use Rattle.cpog_defs.specs.declared.types.Place.TheVariants.{Op, Arc}
use Rattle.cpog_defs.specs.Orders.{each_below, all_below}
use Rattle.cpog_defs.specs.Graphs.{IsPlace}
use Rattle.cpog_defs.specs.Entries.{entry_at}
use Rattle.cpog_merge.specs.declared.class_list.Belongs.{Belongs}
use Rattle.cpog_merge.specs.declared.class_list.Belongs.TheVariants.{Const, Class}
use Rattle.cpog_merge.specs.Columns.{Columns, column_at}

-- whether a column asks for a 1 and for a 0
abbrev pub is_open : List Bit3 → Bool
is_open column = list_any is_one column && list_any is_zero column

-- the place, where it is open
abbrev pub open_at : Columns → Place → List Place
open_at t p = if is_open (column_at t p) then p ∷ [] else []

-- the open operations below n
abbrev pub open_ops : Columns → ℕ → List Place
open_ops t n = each_below (λ v. open_at t (Op (record { 0 = v }))) n

-- the open pairs from u, whose second is below n
abbrev pub open_arcs_from : Columns → ℕ → ℕ → List Place
open_arcs_from t n u = each_below (λ v. if u == v then [] else open_at t (Arc (record { 0 = u }) (record { 0 = v }))) n

-- the open places, in column order
abbrev pub open_places : Columns → List Place
open_places t = open_ops t t.count ++ each_below (open_arcs_from t t.count) t.count

-- whether an entry asks for nothing, or the other is the same, or its opposite where negated
abbrev pub meets : Bool → Bit3 → Bit3 → Bool
meets negated b Free = true
meets false One One = true
meets false Zero Zero = true
meets true Zero One = true
meets true One Zero = true
meets negated b a = false

-- whether b serves a, as it stands or complemented
unfoldable pub serves_as : Bool → List Bit3 → List Bit3 → Bool
serves_as negated b a = all_below (λ s. meets negated (entry_at b s) (entry_at a s)) (length a)

-- whether b serves a, with either sign
abbrev pub serves : List Bit3 → List Bit3 → Bool
serves b a = serves_as false b a || serves_as true b a

-- whether no earlier column serves p, and p serves each later one that serves it
abbrev pub is_class : List (List Bit3) → List Bit3 → List (List Bit3) → Bool
is_class earlier p later = not (list_any (λ q. serves q p) earlier) && list_all (λ q. not (serves q p) || serves p q) later

-- whether the column at a place of a list is a class
abbrev pub is_class_at : List (List Bit3) → ℕ → Bool
is_class_at columns i = is_class (take i columns) (slice_index_or columns i []) (drop (i + 1) columns)

-- of the first n places of a list, those whose columns are classes
abbrev pub chosen : List (List Bit3) → List Place → ℕ → List Place
chosen columns places n = each_below (λ i. if is_class_at columns i then slice_index_or places i (Op (record { 0 = 0 })) ∷ [] else []) n

-- the first class that serves a column, and its sign
abbrev pub first_class : List (List Bit3) → List Bit3 → ℕ
first_class classes column = position_or_len (λ b. serves b column) classes

abbrev pub class_of : List (List Bit3) → List Bit3 → Belongs
class_of classes column = Class (first_class classes column) (not (serves_as false (slice_index_or classes (first_class classes column) []) column))

-- what a column belongs to
abbrev pub belonging : List (List Bit3) → List Bit3 → Belongs
belonging classes column =
    if list_any is_one column
    then (if list_any is_zero column then class_of classes column else Const true)
    else Const false

-- what the columns of the operations below n belong to
abbrev pub op_belongings : Columns → List (List Bit3) → ℕ → List Belongs
op_belongings t classes n = each_below (λ v. belonging classes (column_at t (Op (record { 0 = v }))) ∷ []) n

-- what the columns of the pairs from u belong to, and the constant 0 for u itself
abbrev pub arc_belongings_from : Columns → List (List Bit3) → ℕ → ℕ → List Belongs
arc_belongings_from t classes n u =
    each_below (λ v. (if u == v then Const false else belonging classes (column_at t (Arc (record { 0 = u }) (record { 0 = v })))) ∷ []) n

-- those of the pairs from each operation below m
abbrev pub arc_belongings : Columns → List (List Bit3) → ℕ → ℕ → List Belongs
arc_belongings t classes n m = each_below (arc_belongings_from t classes n) m

-- one of these classes serves the column, if it is open
abbrev pub HasClass : List (List Bit3) → List Bit3 → Type 0
HasClass classes column = IsTrue (is_open column) → first_class classes column < length classes

-- each open column has a class
pub record HaveClasses (classes : List (List Bit3)) (t : Columns) : Type 0 where
  pub each : (p : Place) → IsPlace t.count p → HasClass classes (column_at t p)
