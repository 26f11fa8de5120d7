-- Graphs as tables for all operations and pairs of them, and what the lines before have stated.
use Rattle.std.specs.Prelude.{◌≡◌, ℕ, ◌<◌, ◌≤◌, true, List, [], length, slice_get, slice_index, slice_index_or, Option, Some, None}
use Rattle.std.specs.List.{AllByRecursion}
use Rattle.cpog_base.specs.Names.{place_of}
use Rattle.cpog_base.specs.declared.limits.TheConstants.{PARAM_LIMIT}
use Rattle.cpog_defs.specs.Codes.{bit}
use Rattle.pg_algebra.specs.Graphs.{Graph, empty}
use Rattle.pg_algebra.specs.declared.expr.Expr.{Expr}
use Rattle.pg_algebra.specs.Conditions.{valuation}
use Rattle.pg_algebra.specs.Meaning.{Earlier, graph_of}
use Rattle.pg_normal.specs.declared.tables.Tables.{Tables}
use Rattle.pg_normal.specs.declared.known.Known.{Known}
use Rattle.pg_normal.specs.Appearing.{has}
use Rattle.pg_normal.specs.Forms.{Implies}

-- the table of the arc from u to v: the row of v holds the arcs to v
abbrev pub entry : List (List ℕ) → ℕ → ℕ → ℕ
entry arcs u v = slice_index (slice_index_or arcs v []) u

-- the graph of these tables under valuation n
abbrev pub graph_of_rows : List ℕ → List (List ℕ) → ℕ → Graph
graph_of_rows vertices arcs n =
    record { vertex = λ v. bit (slice_index vertices v) n; arc = λ u v. bit (entry arcs u v) n }

-- the same of tables that are kept together
abbrev pub graph_of_tables : Tables → ℕ → Graph
graph_of_tables t n = graph_of_rows t.vertices t.arcs n

-- as many rows as each row is long
pub record HasFullRows (count : ℕ) (arcs : List (List ℕ)) : Type 0 where
  pub rows : length arcs ≡ count
  pub widths : (v : ℕ) → v < count → length (slice_index_or arcs v []) ≡ count

-- over so many operations; an arc occurs only where its ends do, and what occurs is listed
pub record IsOver (count : ℕ) (t : Tables) : Type 0 where
  pub vertices : length t.vertices ≡ count
  pub arcs : HasFullRows count t.arcs
  pub first : (u v : ℕ) → Implies (entry t.arcs u v) (slice_index t.vertices u)
  pub second : (u v : ℕ) → Implies (entry t.arcs u v) (slice_index t.vertices v)
  pub listed : (v n : ℕ) → n < 64 → bit (slice_index t.vertices v) n ≡ true → has t.order v ≡ true

-- what is kept of the graph at a place, if there is one
abbrev pub tables_at : List Tables → Option ℕ → Option Tables
tables_at forms None = None
tables_at forms (Some i) = slice_get forms i

-- what is kept of the graph of this name
abbrev pub tables_named : Known → List ℕ → Option Tables
tables_named known name = tables_at known.tables (place_of known.graphs name)

-- its graph under valuation n, and the empty one where nothing is kept
abbrev pub graph_or_empty : ℕ → Option Tables → Graph
graph_or_empty n None = empty
graph_or_empty n (Some t) = graph_of_tables t n

-- its operations in order
abbrev pub order_or_none : Option Tables → List ℕ
order_or_none None = []
order_or_none (Some t) = t.order

-- the graphs that are known under valuation n, by their names
abbrev pub graphs_known : Known → ℕ → Earlier
graphs_known known n name = graph_or_empty n (tables_named known name)

-- their operations in the order of first appearance
abbrev pub orders_known : Known → List ℕ → List ℕ
orders_known known name = order_or_none (tables_named known name)

-- the graph of an expression over what is known under valuation n
abbrev pub graph_stated : Known → ℕ → Expr → Graph
graph_stated known n e = graph_of (graphs_known known n) (valuation known.params n) e

-- few parameters, and tables over so many operations for each graph that is known
pub record IsKnown (count : ℕ) (known : Known) : Type 0 where
  pub few : length known.params ≤ PARAM_LIMIT
  pub each : length known.tables ≡ length known.graphs
  pub over : AllByRecursion (IsOver count) known.tables

-- under these valuations the arcs of the first are among those of the second
abbrev pub AreThere : ℕ → List (List ℕ) → List (List ℕ) → Type 0
AreThere among some arcs =
    (u v n : ℕ) → n < 64 → bit among n ≡ true → bit (entry some u v) n ≡ true → bit (entry arcs u v) n ≡ true

-- a table for each graph that is known: under its valuations the arcs of the graph are there
pub record AreUnited (known : Known) (united : List ℕ) (arcs : List (List ℕ)) : Type 0 where
  pub each : length united ≡ length known.tables
  pub there : (i : ℕ) (t : Tables) → slice_get known.tables i ≡ Some t → AreThere (slice_index united i) t.arcs arcs

-- rows to which expressions over known graphs are added: of vertices, of arcs, and of the graphs whose arcs are there
pub record AreRowsOver (known : Known) (vertices : List ℕ) (arcs : List (List ℕ)) (united : List ℕ) : Type 0 where
  pub over : IsKnown (length arcs) known
  pub width : length vertices ≡ length arcs
  pub square : HasFullRows (length arcs) arcs
  pub there : AreUnited known united arcs

-- there is an arc from each vertex of the first row to each of the second, under the valuations of both
abbrev pub AreJoined : List ℕ → List ℕ → List (List ℕ) → Type 0
AreJoined before joined arcs =
    (u v n : ℕ) → n < 64 → bit (slice_index before u) n ≡ true → bit (slice_index joined v) n ≡ true →
    bit (entry arcs u v) n ≡ true
