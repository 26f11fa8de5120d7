-- Arcs that are gathered by their ends.
use Rattle.std.proofs.Common.{◌≡◌, ℕ, zero, suc, ◌<◌, ◌==◌, ◌&&◌, ◌||◌, Bool, true, false, IsTrue, List, [], ◌∷◌, ◌++◌, if◌then◌else◌, refl, sym, arith, inl, inr}
use Rattle.std.proofs.lemmas.Bool.{both_ways, or_cases, and_parts, eqb-true}
use Rattle.std.proofs.lemmas.List.Folds.{list_any-append}
use Rattle.cpog_defs.specs.declared.types.OpId.{OpId}
use Rattle.cpog_defs.specs.Orders.{each_below, arc_of}
use Rattle.cpog_base.specs.Rows.{has_arc}

-- the pairs of u and a number below n that pass
abbrev pub arcs_from : (ℕ → ℕ → Bool) → ℕ → ℕ → List (OpId × OpId)
arcs_from p n u = each_below (λ v. if p u v then arc_of u v ∷ [] else []) n

-- the pairs of numbers below n that pass, by the first and then the second
abbrev pub arcs_where : (ℕ → ℕ → Bool) → ℕ → List (OpId × OpId)
arcs_where p n = each_below (arcs_from p n) n

pub has_append : (xs ys : List (OpId × OpId)) (a b : ℕ) → has_arc (xs ++ ys) a b ≡ (has_arc xs a b || has_arc ys a b)
has_append xs ys a b = list_any-append (λ x. (x.0.0 == a) && (x.1.0 == b)) xs ys

pub has_one : (t : Bool) (u v a b : ℕ) → IsTrue (has_arc (if t then arc_of u v ∷ [] else []) a b) → (a ≡ u) × (b ≡ v)
has_one false u v a b h = absurd (both_ways _ refl h)
has_one true u v a b h = elim (or_cases _ _ h) [
  | inl here ↦ let p = and_parts _ _ here in (sym (eqb-true u a p.0), sym (eqb-true v b p.1))
  | inr later ↦ absurd (both_ways _ refl later)
]

-- the arcs from u end below n
pub from_u : (p : ℕ → ℕ → Bool) (n u a b : ℕ) → IsTrue (has_arc (arcs_from p n u) a b) → (a ≡ u) × (b < n)
from_u p zero u a b h = absurd (both_ways _ refl h)
from_u p (suc n) u a b h = elim (or_cases _ _ (rw (has_append (arcs_from p n u) (if p u n then arc_of u n ∷ [] else []) a b) at h)) [
  | inl old ↦ let k = from_u p n u a b old in (k.0, omega (arith, k.1))
  | inr new ↦ let k = has_one (p u n) u n a b new in (k.0, omega (arith, k.1))
]

-- the arcs that begin below m
pub begin_below : (p : ℕ → ℕ → Bool) (n m a b : ℕ) → IsTrue (has_arc (each_below (arcs_from p n) m) a b) → a < m
begin_below p n zero a b h = absurd (both_ways _ refl h)
begin_below p n (suc m) a b h = elim (or_cases _ _ (rw (has_append (each_below (arcs_from p n) m) (arcs_from p n m) a b) at h)) [
  | inl old ↦ let k = begin_below p n m a b old in omega (arith, k)
  | inr new ↦ let k = from_u p n m a b new in omega (arith, k.0)
]
