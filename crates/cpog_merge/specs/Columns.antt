-- The columns of some scenarios together.
use Rattle.std.specs.Prelude.{◌≡◌, ℕ, ◌+◌, ◌*◌, ◌≤◌, List, [], ◌∷◌, length, slice_index_or}
use Rattle.std.specs.List.{All}
use Rattle.cpog_defs.specs.declared.types.Bit3.{Bit3}
use Rattle.cpog_defs.specs.declared.types.Place.{Place}
use Rattle.cpog_defs.specs.declared.types.Place.TheVariants.{Op, Arc}
use Rattle.cpog_base.specs.declared.limits.TheConstants.{SCENARIO_LIMIT}
use Rattle.cpog_defs.specs.Orders.{Order}
use Rattle.cpog_defs.specs.Graphs.{IsPlace, ref_of}
use Rattle.cpog_defs.specs.Columns.{column}
use Rattle.cpog_defs.specs.Encodings.{Encoding, RefAgrees}

-- how many operations and scenarios there may be, the columns of the operations, and for each second operation those of its pairs
pub record Columns : Type 0 where
  pub count : ℕ
  pub scenarios : ℕ
  pub ops : List (List Bit3)
  pub arcs : List (List Bit3)

-- the column of a place
abbrev pub column_at : Columns → Place → List Bit3
column_at t (Op v) = slice_index_or t.ops v.0 []
column_at t (Arc u v) = slice_index_or t.arcs (v.0 * t.count + u.0) []

-- a column for each operation and each pair, each with an entry for each scenario
pub record AreColumns (t : Columns) : Type 0 where
  pub few_ops : t.count ≤ 128
  pub few_scenarios : t.scenarios ≤ SCENARIO_LIMIT
  pub ops_each : length t.ops ≡ t.count
  pub arcs_each : length t.arcs ≡ t.count * t.count
  pub op_entries : All (λ c. length c ≡ t.scenarios) t.ops
  pub arc_entries : All (λ c. length c ≡ t.scenarios) t.arcs

-- how many operations there may be, as the first order says
abbrev pub count_of : List Order → ℕ
count_of [] = 0
count_of (o ∷ orders) = o.count

-- each place has its column, with an entry for each of the scenarios
pub record AreColumnsOf (orders : List Order) (t : Columns) : Type 0 where
  pub count : t.count ≡ count_of orders
  pub scenarios : t.scenarios ≡ length orders
  pub columns : (p : Place) → IsPlace (count_of orders) p → column_at t p ≡ column orders p

-- the same column at each place
pub record AreSameColumns (t u : Columns) : Type 0 where
  pub count : t.count ≡ u.count
  pub columns : (p : Place) → IsPlace t.count p → column_at t p ≡ column_at u p

-- there is one code for each of the scenarios, on which each condition has the values of its column
pub record AgreesWith (e : Encoding) (t : Columns) : Type 0 where
  pub one_code_each : length e.codes ≡ t.scenarios
  pub agrees : (p : Place) → IsPlace t.count p → RefAgrees e.gates e.codes (column_at t p) (ref_of e.graph p)
