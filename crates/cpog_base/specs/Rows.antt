-- For each operation a set of operations, and lists of arcs.
use Rattle.std.specs.Prelude.{ℕ, ◌==◌, Bool, ◌&&◌, List, slice_index_or}
use Rattle.std.specs.List.{list_any}
use Rattle.std.specs.FinSet as set
use Rattle.cpog_defs.specs.declared.types.OpId.{OpId}
use Rattle.cpog_defs.specs.Orders.{Set}

-- whether v's set has u
abbrev pub row_has : List Set → ℕ → ℕ → Bool
row_has rows u v = set.contains (slice_index_or rows v set.empty) u

-- whether an arc from u to v is among these
abbrev pub has_arc : List (OpId × OpId) → ℕ → ℕ → Bool
has_arc arcs u v = list_any (λ a. (a.0.0 == u) && (a.1.0 == v)) arcs
