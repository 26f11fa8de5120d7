-- The walks of the covered pairs are the order.
use Rattle.std.proofs.Common.{◌≡◌, ◌↔◌, ℕ, zero, suc, ◌<◌, Bool, true, false, if◌then◌else◌, IsTrue, List, [], ◌∷◌, refl, ap, subst, inl, inr, arith}
use Rattle.std.specs.List.{Contains}
use Rattle.std.proofs.lemmas.Bool.{cases_eq}
use Rattle.std.proofs.lemmas.List.Elements.{Contains-append_left, Contains-append_right, Contains-append_cases}
use Rattle.cpog_defs.specs.declared.types.OpId.{OpId}
use Rattle.cpog_defs.specs.Walks.{Walk, last}
use Rattle.cpog_defs.specs.Orders.{Order, IsOrder, is_before, is_covered, each_below, arc_of, covering_pairs}
use Rattle.cpog_defs.proofs.WalkLemmas.{replaced, covered_walk, walk_covered}
use Rattle.order_reduce.proofs.CoveredLemmas.{covered_tells, covered_from}

pub from_each : {A : Type 0} (n : ℕ) (f : ℕ → List A) (x : A) → Contains (each_below f n) x → (i : ℕ) × (i < n) × Contains (f i) x
from_each zero f x h = absurd (omega (arith, h.1))
from_each (suc n) f x h = elim (Contains-append_cases (each_below f n) (f n) x h) [
  | inl a ↦ let r = from_each n f x a in (r.0, omega (arith, r.1), r.2)
  | inr b ↦ (n, omega arith, b)
]

to_each : {A : Type 0} (n : ℕ) (f : ℕ → List A) (x : A) (i : ℕ) → i < n → Contains (f i) x → Contains (each_below f n) x
to_each zero f x i l h = absurd (omega arith)
to_each (suc n) f x i l h = elim (cases_eq i n) [
  | inl same ↦ Contains-append_right (each_below f n) (f n) x (rw (← same) h)
  | inr other ↦ Contains-append_left (each_below f n) (f n) x (to_each n f x i (omega arith) h)
]

pub from_if : {A : Type 0} (b : Bool) (y x : A) → Contains (if b then y ∷ [] else []) x → IsTrue b × (y ≡ x)
from_if true y x (zero, l, e) = (refl, e)
from_if true y x (suc k, l, e) = absurd (omega arith)
from_if false y x (k, l, e) = absurd (omega arith)

to_if : {A : Type 0} (b : Bool) (x : A) → IsTrue b → Contains (if b then x ∷ [] else []) x
to_if b x t = rw t (zero, omega arith, refl)

pub pair_covered : (o : Order) (u v : ℕ) → Contains (covering_pairs o) (arc_of u v) → IsTrue (is_covered o u v)
pair_covered o u v h =
    let a = from_each o.count _ (arc_of u v) h in
    let b = from_each o.count _ (arc_of u v) a.2 in
    let d = from_if (is_covered o a.0 b.0) (arc_of a.0 b.0) (arc_of u v) b.2 in
    let e : a.0 ≡ u = ap (λ (p : OpId × OpId). p.0.0) d.1 in
    let f : b.0 ≡ v = ap (λ (p : OpId × OpId). p.1.0) d.1 in
    subst (λ (x : ℕ). IsTrue (is_covered o x v)) e (subst (λ (y : ℕ). IsTrue (is_covered o a.0 y)) f d.0)

pub covered_pair : (o : Order) → IsOrder o → (u v : ℕ) → IsTrue (is_covered o u v) → Contains (covering_pairs o) (arc_of u v)
covered_pair o ord u v h =
    let c = covered_tells o ord u v h in
    to_each o.count _ (arc_of u v) u (ord.strict.first_below u v c.is_before)
    (to_each o.count _ (arc_of u v) v (ord.strict.second_below u v c.is_before) (to_if (is_covered o u v) (arc_of u v) h))

pub pairs_walk : (o : Order) → IsOrder o → (u v : ℕ) → Walk (λ a b. Contains (covering_pairs o) (arc_of a b)) u v ↔ IsTrue (is_before o u v)
pairs_walk o ord u v = (
  λ w. walk_covered o.count (is_before o) ord.strict u v (replaced (λ a b h. last (covered_tells o ord a b (pair_covered o a b h))) w),
  λ h. replaced (λ a b c. last (covered_pair o ord a b (covered_from o ord a b c))) (covered_walk o.count (is_before o) ord.strict u v h),
)
