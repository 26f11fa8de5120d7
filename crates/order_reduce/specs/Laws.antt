-- What is promised of covering pairs.
use Rattle.std.specs.Prelude.{◌↔◌, ℕ, ◌*◌, ◌/◌, ◌≤◌, Bool, IsTrue, length}
use Rattle.std.specs.FinSet as set
use Rattle.cpog_defs.specs.Walks.{Walk, IsCovered, IsStrictOrder}
use Rattle.cpog_defs.specs.Orders.{Order, IsOrder, is_before, is_covered, covering_pairs}

-- the test for covering in an order tells exactly what covering is
abbrev pub CoveringIsCovered : Type 0
CoveringIsCovered = (o : Order) → IsOrder o → (u v : ℕ) → IsTrue (is_covered o u v) ↔ IsCovered (is_before o) u v

-- the walks of the covering pairs of a finite strict order are the order
abbrev pub CoversKeepWalks : Type 0
CoversKeepWalks =
    (n : ℕ) (before : ℕ → ℕ → Bool) → IsStrictOrder n before → (u v : ℕ) → Walk (IsCovered before) u v ↔ IsTrue (before u v)

-- n operations have at most n * n / 4 covering pairs
abbrev pub CoversAreFew : Type 0
CoversAreFew = (o : Order) → IsOrder o → length (covering_pairs o) ≤ set.len o.ops * set.len o.ops / 4
