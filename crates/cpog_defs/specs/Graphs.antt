-- Conditional graphs, and what they leave under a word (Mokhov and Yakovlev 2010: conditional partial order graphs, their projections).
use Rattle.std.specs.Prelude.{◌≡◌, ◌≢◌, ◌↔◌, ℕ, ◌<◌, ◌==◌, Bool, false, not, ◌&&◌, IsTrue, List, [], length, slice_index_or}
use Rattle.std.specs.FinSet as set
use Rattle.cpog_defs.specs.declared.types.Ref.{Ref}
use Rattle.cpog_defs.specs.declared.types.Ref.TheVariants.{Const}
use Rattle.cpog_defs.specs.declared.types.Place.{Place}
use Rattle.cpog_defs.specs.declared.types.Place.TheVariants.{Op, Arc}
use Rattle.cpog_defs.specs.Walks.{Walk}
use Rattle.cpog_defs.specs.Orders.{Set}
use Rattle.cpog_defs.specs.Gates.{ref_value, IsRefOver}

-- a condition for each operation, and for each operation a row of conditions: those of its arcs
pub record ConditionalGraph : Type 0 where
  pub ops : List Ref
  pub arcs : List (List Ref)

abbrev pub op_ref : ConditionalGraph → ℕ → Ref
op_ref graph v = slice_index_or graph.ops v (Const false)

abbrev pub arc_ref : ConditionalGraph → ℕ → ℕ → Ref
arc_ref graph u v = slice_index_or (slice_index_or graph.arcs u []) v (Const false)

abbrev pub ref_of : ConditionalGraph → Place → Ref
ref_of graph (Op v) = op_ref graph v.0
ref_of graph (Arc u v) = arc_ref graph u.0 v.0

-- an operation below the count, or two different ones
abbrev pub IsPlace : ℕ → Place → Type 0
IsPlace count (Op v) = v.0 < count
IsPlace count (Arc u v) = (u.0 < count) × (v.0 < count) × (u.0 ≢ v.0)

-- a condition over so many signals for each operation and each ordered pair, and none that counts from an operation to itself
pub record IsGraph (count signals : ℕ) (graph : ConditionalGraph) : Type 0 where
  pub ops : length graph.ops ≡ count
  pub arcs : length graph.arcs ≡ count
  pub rows : (u : ℕ) → u < count → length (slice_index_or graph.arcs u []) ≡ count
  pub diagonal : (u : ℕ) → arc_ref graph u u ≡ Const false
  pub over : (p : Place) → IsPlace count p → IsRefOver signals (ref_of graph p)

-- whether the operation is left under these values of the signals
abbrev pub keeps : ConditionalGraph → List Bool → ℕ → Bool
keeps graph values v = ref_value values (op_ref graph v)

-- whether the pair is left: its condition is 1, and its two different ends are left
abbrev pub keeps_arc : ConditionalGraph → List Bool → ℕ → ℕ → Bool
keeps_arc graph values u v = not (u == v) && (keeps graph values u && (keeps graph values v && ref_value values (arc_ref graph u v)))

-- a walk of the pairs that are left
abbrev pub KeptWalk : ConditionalGraph → List Bool → ℕ → ℕ → Type 0
KeptWalk graph values = Walk (λ u v. IsTrue (keeps_arc graph values u v))

-- exactly these operations are left, and the walks of the pairs that are left are exactly this relation
pub record ProjectsTo (graph : ConditionalGraph) (values : List Bool) (ops : Set) (Before : ℕ → ℕ → Type 0) : Type 0 where
  pub operations : (v : ℕ) → IsTrue (keeps graph values v) ↔ IsTrue (set.contains ops v)
  pub before : (u v : ℕ) → KeptWalk graph values u v ↔ Before u v
