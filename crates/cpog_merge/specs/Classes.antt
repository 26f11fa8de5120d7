-- The classes of columns. Where one column serves another, each condition that meets the one meets the other too, as it
-- stands or complemented, so the other needs none of its own. Places stand in column order: operations by their numbers,
-- then pairs by their first and then by their second. A place is open where its column asks for a 1 somewhere and for a
-- 0 elsewhere; any other takes a constant. Of open places that serve each other only the first can be a class, and a
-- place that is served by one that it does not serve back is none. Each open place is served by some class.
use Rattle.std.specs.Prelude.{◌≡◌, ℕ, ◌+◌, ◌*◌, ◌<◌, ◌≤◌, ◌⊎◌, Bool, true, false, IsTrue, List, [], length, map, slice_index_or}
use Rattle.std.specs.List.{list_any, All, AllPairs, Contains}
use Rattle.cpog_base.specs.Column.{is_one, is_zero, Serves, Opposes}
use Rattle.cpog_defs.specs.declared.types.Bit3.{Bit3}
use Rattle.cpog_defs.specs.declared.types.Place.{Place}
use Rattle.cpog_defs.specs.declared.types.Place.TheVariants.{Op, Arc}
use Rattle.cpog_defs.specs.Graphs.{IsPlace}
use Rattle.cpog_merge.specs.declared.class_list.Belongs.{Belongs}
use Rattle.cpog_merge.specs.declared.class_list.Belongs.TheVariants.{Const, Class}
use Rattle.gate_core.specs.Columns.{IsOpenColumn}
use Rattle.cpog_merge.specs.Columns.{Columns, column_at}

-- column order
abbrev pub ComesBefore : Place → Place → Type 0
ComesBefore (Op u) (Op v) = u.0 < v.0
ComesBefore (Op u) (Arc v w) = Unit {0}
ComesBefore (Arc u v) (Op w) = ⊥
ComesBefore (Arc u v) (Arc x y) = (u.0 < x.0) ⊎ ((u.0 ≡ x.0) × (v.0 < y.0))

-- b serves a as it stands, or complemented where negated
abbrev pub ServesAs : Bool → List Bit3 → List Bit3 → Type 0
ServesAs false b a = Serves b a
ServesAs true b a = Opposes b a

-- b serves a, with either sign
abbrev pub IsServedBy : List Bit3 → List Bit3 → Type 0
IsServedBy a b = Serves b a ⊎ Opposes b a

-- an operation or a pair whose column is open
pub record IsOpenPlace (t : Columns) (p : Place) : Type 0 where
  pub place : IsPlace t.count p
  pub column : IsOpenColumn (length (column_at t p)) (column_at t p)

-- an open place that no earlier open one serves, and that serves each later open one that serves it
pub record IsClass (t : Columns) (p : Place) : Type 0 where
  pub is_open : IsOpenPlace t p
  pub none_earlier : (q : Place) → IsOpenPlace t q → ComesBefore q p → IsServedBy (column_at t p) (column_at t q) → ⊥
  pub serves_back : (q : Place) → IsOpenPlace t q → ComesBefore p q → IsServedBy (column_at t p) (column_at t q) → IsServedBy (column_at t q) (column_at t p)

-- the places and columns of the classes, and what each operation's and each pair's column belongs to
pub record Classes : Type 0 where
  pub count : ℕ
  pub places : List Place
  pub columns : List (List Bit3)
  pub ops : List Belongs
  pub arcs : List Belongs

-- the column of a class
abbrev pub class_column : Classes → ℕ → List Bit3
class_column list number = slice_index_or list.columns number []

-- what the column of a place belongs to
abbrev pub belongs_at : Classes → Place → Belongs
belongs_at list (Op v) = slice_index_or list.ops v.0 (Const false)
belongs_at list (Arc u v) = slice_index_or list.arcs (u.0 * list.count + v.0) (Const false)

-- of the classes, this one is the first that serves the column, and it serves it with this sign
pub record BelongsToClass (list : Classes) (column : List Bit3) (number : ℕ) (negated : Bool) : Type 0 where
  pub in_range : number < length list.columns
  pub serves : ServesAs negated (class_column list number) column
  pub first : (k : ℕ) → k < number → IsServedBy column (class_column list k) → ⊥

-- to the constant 0 where no 1 is asked for, else to the constant 1 where no 0 is, else to a class
abbrev pub BelongsTo : Classes → List Bit3 → Belongs → Type 0
BelongsTo list column (Const false) = list_any is_one column ≡ false
BelongsTo list column (Const true) = IsTrue (list_any is_one column) × (list_any is_zero column ≡ false)
BelongsTo list column (Class number negated) =
    IsTrue (list_any is_one column) × IsTrue (list_any is_zero column) × BelongsToClass list column number negated

-- exactly the classes of some columns, in column order
pub record AreClassPlaces (t : Columns) (places : List Place) : Type 0 where
  pub each : All (IsClass t) places
  pub all : (p : Place) → IsClass t p → Contains places p
  pub in_order : AllPairs ComesBefore places

-- the classes of some columns, and what each column belongs to
pub record AreClassesOf (t : Columns) (list : Classes) : Type 0 where
  pub count : list.count ≡ t.count
  pub places : AreClassPlaces t list.places
  pub columns : list.columns ≡ map (column_at t) list.places
  pub belongs : (p : Place) → IsPlace t.count p → BelongsTo list (column_at t p) (belongs_at list p)

-- as many columns as places, and for each operation and each pair what its column belongs to
pub record IsClassList (list : Classes) : Type 0 where
  pub few_ops : list.count ≤ 128
  pub few : length list.places ≤ 16384
  pub columns_each : length list.columns ≡ length list.places
  pub ops_each : length list.ops ≡ list.count
  pub arcs_each : length list.arcs ≡ list.count * list.count
