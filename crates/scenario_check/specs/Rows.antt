-- For each operation the set of those before it, and how the sets are closed.
use Rattle.std.specs.Prelude.{ℕ, zero, suc, ◌<◌, if◌then◌else◌, IsTrue, List, map, slice_index_or}
use Rattle.std.specs.List.{Contains}
use Rattle.std.specs.FinSet as set
use Rattle.cpog_defs.specs.declared.types.OpId.{OpId}
use Rattle.cpog_defs.specs.Orders.{Set, arc_of}
use Rattle.cpog_defs.specs.Walks.{Walk}
use Rattle.cpog_base.specs.Rows.{row_has}

-- what is before k joins a row that has k
abbrev pub joined_row : ℕ → Set → Set → Set
joined_row k through row = if set.contains row k then set.union row through else row

-- every row after the turn of k
abbrev pub turned : ℕ → List Set → List Set
turned k rows = map (joined_row k (slice_index_or rows k set.empty)) rows

-- the rows after a turn for each number below k
abbrev pub turns : ℕ → List Set → List Set
turns zero rows = rows
turns (suc k) rows = turned k (turns k rows)

-- no operation below v is before itself
abbrev pub NoneBelow : List Set → ℕ → Type 0
NoneBelow rows v = (w : ℕ) → w < v → IsTrue (row_has rows w w) → ⊥

-- the rows are the walks of the arcs
pub record AreRowsOf (arcs : List (OpId × OpId)) (rows : List Set) : Type 0 where
  pub there : (u v : ℕ) → IsTrue (row_has rows u v) → Walk (λ a b. Contains arcs (arc_of a b)) u v
  pub back : (u v : ℕ) → Walk (λ a b. Contains arcs (arc_of a b)) u v → IsTrue (row_has rows u v)
