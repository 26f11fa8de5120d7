-- Normal forms, and the graph of one under each valuation.
use Rattle.std.specs.Prelude.{◌≡◌, ◌≢◌, ℕ, ◌<◌, ◌^◌, Bool, true, ◌&&◌, ◌==◌, List, map, filter, Option, Some, None}
use Rattle.std.specs.List.{AllByRecursion, IsDistinct, list_any}
use Rattle.std.specs.Map.{lookup}
use Rattle.cpog_defs.specs.Codes.{bit}
use Rattle.cpog_defs.specs.Orders.{any_below}
use Rattle.pg_algebra.specs.Graphs.{Graph}
use Rattle.pg_algebra.specs.declared.table.Table.{Table}

-- vertices and arcs, each with its table: bit n says whether it occurs under valuation n
pub record Form : Type 0 where
  pub vertices : List (ℕ × Table)
  pub arcs : List ((ℕ × ℕ) × Table)

-- the arc's ends are these
abbrev pub is_arc : ℕ → ℕ → ℕ × ℕ → Bool
is_arc u v ends = (u == ends.0) && (v == ends.1)

-- an absent table is 0
abbrev pub word : Option Table → ℕ
word None = 0
word (Some t) = t.0

-- the table of a vertex, and 0 where the form does not have it
abbrev pub vertex_table : Form → ℕ → ℕ
vertex_table f v = word (lookup (λ w. v == w) f.vertices)

-- the table of an arc, and 0 where the form does not have it
abbrev pub arc_table : Form → ℕ → ℕ → ℕ
arc_table f u v = word (lookup (is_arc u v) f.arcs)

-- the graph of a form under valuation n
abbrev pub graph_at : Form → ℕ → Graph
graph_at f n = record { vertex = λ v. bit (vertex_table f v) n; arc = λ u v. bit (arc_table f u v) n }

-- the second is 1 wherever the first is
abbrev pub Implies : ℕ → ℕ → Type 0
Implies a b = (n : ℕ) → n < 64 → bit a n ≡ true → bit b n ≡ true

-- the table of the arc asks for both of its ends
abbrev pub AsksForEnds : Form → (ℕ × ℕ) × Table → Type 0
AsksForEnds f e = Implies e.1.0 (vertex_table f e.0.0) × Implies e.1.0 (vertex_table f e.0.1)

-- a word of 64 bits that is not 0
abbrev pub IsWord : ℕ → Type 0
IsWord w = (w ≢ 0) × (w < 2 ^ 64)

-- no vertex and no arc stands twice, none is without a valuation, and an arc occurs only where both of its ends do
pub record IsForm (f : Form) : Type 0 where
  pub vertices : IsDistinct (λ v w. v == w) (map (λ e. e.0) f.vertices)
  pub arcs : IsDistinct (λ a b. is_arc a.0 a.1 b) (map (λ e. e.0) f.arcs)
  pub some_vertex : AllByRecursion (λ e. IsWord e.1.0) f.vertices
  pub some_arc : AllByRecursion (λ e. IsWord e.1.0) f.arcs
  pub ends : AllByRecursion (AsksForEnds f) f.arcs

-- whether it holds under some of the 64 valuations
abbrev pub sometimes : (ℕ → Bool) → Bool
sometimes holds = any_below holds 64

-- the form of a graph under each valuation: of the operations in their order, those that occur under some valuation,
-- and the arcs that do
pub record IsFormOf (graphs : ℕ → Graph) (order : List ℕ) (f : Form) : Type 0 where
  pub normal : IsForm f
  pub graph : (n : ℕ) → n < 64 → graph_at f n ≡ graphs n
  pub vertices : map (λ e. e.0) f.vertices ≡ filter (λ v. sometimes (λ n. (graphs n).vertex v)) order
  pub arcs : (u v : ℕ) → list_any (is_arc u v) (map (λ e. e.0) f.arcs) ≡ sometimes (λ n. (graphs n).arc u v)
