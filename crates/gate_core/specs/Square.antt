-- Conditional graphs as tables.
use Rattle.std.specs.Prelude.{◌≡◌, ℕ, ◌<◌, ◌≤◌, false, [], length, slice_index_or}
use Rattle.cpog_defs.specs.declared.types.Ref.TheVariants.{Const}
use Rattle.cpog_defs.specs.Graphs.{ConditionalGraph, arc_ref}

-- at most 128 operations, a row as long for each, and no condition but the constant 0 from an operation to itself
pub record IsSquare (graph : ConditionalGraph) : Type 0 where
  pub few : length graph.ops ≤ 128
  pub arcs : length graph.arcs ≡ length graph.ops
  pub rows : (u : ℕ) → u < length graph.ops → length (slice_index_or graph.arcs u []) ≡ length graph.ops
  pub diagonal : (u : ℕ) → arc_ref graph u u ≡ Const false
