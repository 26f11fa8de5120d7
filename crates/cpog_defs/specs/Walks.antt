-- Walks over arcs, strict orders, and the pairs with nothing between.
use Rattle.std.specs.Prelude.{ℕ, ◌<◌, Bool, IsTrue}

-- a walk of at least one arc from u to v, over the arcs of E
pub data Walk (E : ℕ → ℕ → Type 0) : ℕ → ℕ → Type 0 where
  last : {u v : ℕ} → E u v → Walk E u v
  more : {u v w : ℕ} → E u v → Walk E v w → Walk E u w

-- u is covered by v: u is before v, and nothing lies between (Mokhov and Yakovlev 2010: the arcs of a transitive reduction)
pub record IsCovered (before : ℕ → ℕ → Bool) (u v : ℕ) : Type 0 where
  pub is_before : IsTrue (before u v)
  pub none_between : (z : ℕ) → IsTrue (before u z) → IsTrue (before z v) → ⊥

-- a strict partial order of numbers below n
pub record IsStrictOrder (n : ℕ) (before : ℕ → ℕ → Bool) : Type 0 where
  pub transitive : (u v w : ℕ) → IsTrue (before u v) → IsTrue (before v w) → IsTrue (before u w)
  pub irreflexive : (v : ℕ) → IsTrue (before v v) → ⊥
  pub first_below : (u v : ℕ) → IsTrue (before u v) → u < n
  pub second_below : (u v : ℕ) → IsTrue (before u v) → v < n
