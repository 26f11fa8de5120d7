-- The last arc of a walk.
use Rattle.std.proofs.Common.{ℕ, ◌⊎◌, inl, inr}
use Rattle.cpog_defs.specs.Walks.{Walk, last, more}

-- a walk is its last arc, or a walk and its last arc
pub last_arc : {E : ℕ → ℕ → Type 0} {u v : ℕ} → Walk E u v → E u v ⊎ ((z : ℕ) × Walk E u z × E z v)
last_arc (last e) = inl e
last_arc (more {v} e a) = elim (last_arc a) [ inl f ↦ inr (v, last e, f) | inr x ↦ inr (x.0, more e x.1, x.2) ]
