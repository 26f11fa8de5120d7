-- Whether an arc is among others, by a test and by its place.
use Rattle.std.specs.Prelude.{◌≡◌, ℕ, zero, suc, ◌<◌, IsTrue, List, [], ◌∷◌, length, slice_index_or}
use Rattle.std.proofs.Common.{refl, ap, ap₂, inl, inr, arith}
use Rattle.std.specs.List.{Contains}
use Rattle.std.proofs.lemmas.Bool.{both_ways, or_left, or_right, or_cases, and_parts, and_from, eq-eqb, eqb-true}
use Rattle.cpog_defs.specs.declared.types.OpId.{OpId}
use Rattle.cpog_defs.specs.Orders.{arc_of}
use Rattle.cpog_base.specs.Rows.{has_arc}

has_at : (arcs : List (OpId × OpId)) (u v k : ℕ) → k < length arcs → slice_index_or arcs k (arc_of u v) ≡ arc_of u v → IsTrue (has_arc arcs u v)
has_at [] u v k l e = absurd (omega arith)
has_at (a ∷ arcs) u v zero l e = or_left _ _ (and_from _ _ (eq-eqb a.0.0 u (ap (λ (x : OpId × OpId). x.0.0) e)) (eq-eqb a.1.0 v (ap (λ (x : OpId × OpId). x.1.0) e)))
has_at (a ∷ arcs) u v (suc k) l e = or_right _ _ (has_at arcs u v k (omega arith) e)

-- an arc that is written is found
pub has_from_contains : (arcs : List (OpId × OpId)) (u v : ℕ) → Contains arcs (arc_of u v) → IsTrue (has_arc arcs u v)
has_from_contains arcs u v c = has_at arcs u v c.0 c.1 c.2

-- and what is found is written
pub contains_from_has : (arcs : List (OpId × OpId)) (u v : ℕ) → IsTrue (has_arc arcs u v) → Contains arcs (arc_of u v)
contains_from_has [] u v h = absurd (both_ways _ refl h)
contains_from_has (a ∷ arcs) u v h = elim (or_cases _ _ h) [
  | inl here ↦ let p = and_parts _ _ here in let same : a ≡ arc_of u v = ap₂ arc_of (eqb-true a.0.0 u p.0) (eqb-true a.1.0 v p.1) in (0, omega arith, same)
  | inr later ↦ let c = contains_from_has arcs u v later in (suc c.0, omega (arith, c.1), c.2)
]
