-- For each operation the set of those that it covers, and the pairs that such sets are.
use Rattle.std.specs.Prelude.{◌≡◌, ℕ, ◌<◌, List, [], ◌∷◌, length, if◌then◌else◌}
use Rattle.cpog_defs.specs.declared.types.OpId.{OpId}
use Rattle.cpog_defs.specs.Orders.{Set, Order, is_covered, each_below, arc_of}
use Rattle.cpog_base.specs.Rows.{row_has}

-- each operation's set has exactly those that it covers
pub record AreCovered (o : Order) (rows : List Set) : Type 0 where
  pub one_each : length rows ≡ o.count
  pub covered : (u v : ℕ) → v < o.count → row_has rows u v ≡ is_covered o u v

-- the pairs whose second is below n and whose first is u
abbrev pub pairs_from : List Set → ℕ → ℕ → List (OpId × OpId)
pairs_from rows n u = each_below (λ v. if row_has rows u v then arc_of u v ∷ [] else []) n
