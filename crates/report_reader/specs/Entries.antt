-- The conditions of arcs as a list of those that aren't 0, and as a table.
use Rattle.std.specs.Prelude.{◌≡◌, ◌≢◌, true, false, ℕ, ◌<◌, ◌==◌, ◌&&◌, List, [], ◌∷◌, length, slice_set, slice_index_or, if◌then◌else◌}
use Rattle.cpog_defs.specs.declared.types.Ref.{Ref}
use Rattle.cpog_defs.specs.declared.types.Ref.TheVariants.{Const}
use Rattle.cpog_defs.specs.Orders.{each_below}
use Rattle.cpog_defs.specs.Gates.{IsRefOver}
use Rattle.cpog_defs.specs.Graphs.{ConditionalGraph}
use Rattle.netlist_verilog.specs.Wires.{name_of}
use Rattle.report_text.specs.Rows.{arc_row}
use Rattle.report_reader.specs.Operations.{Pair, is_from}
use Rattle.report_reader.specs.Gates.{is_zero, after_entry}
use Rattle.report_reader.specs.declared.gates.ArcLine.{ArcLine}

-- a condition of two different operations that may come next
pub record FitsEntry (signals count : ℕ) (least : Pair) (e : ArcLine) : Type 0 where
  pub next : is_from least e.first e.second ≡ true
  pub first : e.first < count
  pub second : e.second < count
  pub differ : e.first ≢ e.second
  pub counts : is_zero e.condition ≡ false
  pub over : IsRefOver signals e.condition

-- each may come behind those before it
abbrev pub FitEntries : ℕ → ℕ → Pair → List ArcLine → Type 0
FitEntries signals count least [] = Unit {0}
FitEntries signals count least (e ∷ es) = FitsEntry signals count least e × FitEntries signals count (after_entry least e) es

abbrev pub entry_row : ℕ → List (List ℕ) → ArcLine → List ℕ
entry_row inputs names e = arc_row inputs (name_of names e.first) (name_of names e.second) e.condition

-- the condition from u to v: the constant 0 where none is listed
abbrev pub look : List ArcLine → ℕ → ℕ → Ref
look [] u v = Const false
look (e ∷ es) u v = if e.first == u && e.second == v then e.condition else look es u v

-- the table of these conditions, for so many operations
abbrev pub table_of : ℕ → List ArcLine → List (List Ref)
table_of count es = each_below (λ u. each_below (λ v. look es u v ∷ []) count ∷ []) count

-- the graph of these conditions
unfoldable pub graph_from : ℕ → List Ref → List ArcLine → ConditionalGraph
graph_from count ops es = record { ops = ops; arcs = table_of count es }

-- two different operations of so many
abbrev pub EndsFit : ℕ → ArcLine → Type 0
EndsFit count e = (e.first < count) × ((e.second < count) × (e.first ≢ e.second))

-- a table with one more condition, and with all of a list
abbrev pub arc_set : List (List Ref) → ArcLine → List (List Ref)
arc_set rows e = slice_set rows e.first (slice_set (slice_index_or rows e.first []) e.second e.condition)

abbrev pub arcs_set : List (List Ref) → List ArcLine → List (List Ref)
arcs_set rows [] = rows
arcs_set rows (e ∷ es) = arc_set (arcs_set rows es) e
