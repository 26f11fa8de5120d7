-- Scenarios that have orders, and the first that has none.
use Rattle.std.proofs.Common.{◌≡◌, ℕ, zero, suc, ◌<◌, List, [], ◌∷◌, ◌++◌, length, take, slice_get, Some, None, refl, sym, ap, ◌∙◌, subst, arith, inl, inr}
use Rattle.std.specs.Prelude.{Option, IsSomeAnd, slice_index_or}
use Rattle.std.proofs.lemmas.Bool.{cases_lt}
use Rattle.std.proofs.lemmas.Option.{none-some, same_Some, slice_get-get_or}
use Rattle.cpog_defs.specs.Walks.{last, more}
use Rattle.cpog_defs.specs.Orders.{Order}
use Rattle.cpog_defs.specs.Scenarios.{Scenario, IsScenario, IsBefore, IsLeastCyclic, IsOrderOfScenario, AreOrdersOf}
use Rattle.scenario_check.specs.Cycles.{IsFirstCyclic}
use Rattle.scenario_check.specs.Laws.{OneFirstCyclic, CyclicOrOrders}

-- one scenario more
pub orders_push : (xs : List Scenario) (os : List Order) (x : Scenario) (o : Order) → AreOrdersOf xs os → IsOrderOfScenario x o → AreOrdersOf (xs ++ x ∷ []) (os ++ o ∷ [])
orders_push [] [] x o z is = (is, tt)
orders_push [] (p ∷ os) x o z is = absurd z
orders_push (y ∷ xs) [] x o z is = absurd z
orders_push (y ∷ xs) (p ∷ os) x o z is = (z.0, orders_push xs os x o z.1 is)

-- where all have orders, none has an operation before itself
none_cyclic : (xs : List Scenario) (os : List Order) → AreOrdersOf xs os → (t w : ℕ) (sc : Scenario) → slice_get xs t ≡ Some sc → IsBefore sc w w → ⊥
none_cyclic [] os z t w sc at h = none-some sc at
none_cyclic (x ∷ xs) [] z t w sc at h = z
none_cyclic (x ∷ xs) (o ∷ os) z zero w sc at h =
    let same : x ≡ sc = cc in z.0.order.strict.irreflexive w ((z.0.before w w).1 (subst (λ y. IsBefore y w w) (sym same) h))
none_cyclic (x ∷ xs) (o ∷ os) z (suc t) w sc at h = none_cyclic xs os z.1 t w sc at h

in_front : (ys : List Scenario) (n k : ℕ) (y : Scenario) → k < n → slice_get ys k ≡ Some y → slice_get (take n ys) k ≡ Some y
in_front [] n k y l e = absurd (none-some y e)
in_front (z ∷ ys) zero k y l e = absurd (omega arith)
in_front (z ∷ ys) (suc n) zero y l e = e
in_front (z ∷ ys) (suc n) (suc k) y l e = in_front ys n k y (omega arith) e

at_place : (xs : List Scenario) (k : ℕ) (x : Scenario) → k < length xs → x ≡ slice_index_or xs k x → slice_get xs k ≡ Some x
at_place xs k x l is = slice_get-get_or xs k x l ∙ ap Some (sym is)

-- where those before it have orders, a scenario with an operation before itself is the first
pub first_cyclic : (xs : List Scenario) (os : List Order) (s v : ℕ) (x : Scenario) → s < length xs → x ≡ slice_index_or xs s x → AreOrdersOf (take s xs) os → IsLeastCyclic x v → IsFirstCyclic xs s v
first_cyclic xs os s v x l is z least = record {
  here = subst (λ o. IsSomeAnd o (λ sc. IsLeastCyclic sc v)) (sym (at_place xs s x l is)) least;
  earlier = λ t w sc before at h. none_cyclic (take s xs) os z t w sc (in_front xs s t sc before at) h;
}

-- an operation before itself is below the count of its scenario
cyclic_below : (sc : Scenario) (v : ℕ) → IsScenario sc → IsBefore sc v v → v < sc.count
cyclic_below sc v is (last e) = is.below v (is.first_kept v v e)
cyclic_below sc v is (more {v = z} e w) = is.below v (is.first_kept v z e)

pub named_below : (xs : List Scenario) (s v : ℕ) (x : Scenario) → s < length xs → x ≡ slice_index_or xs s x → IsScenario x → IsLeastCyclic x v → IsSomeAnd (slice_get xs s) (λ sc. v < sc.count)
named_below xs s v x l is scenario least = subst (λ o. IsSomeAnd o (λ sc. v < sc.count)) (sym (at_place xs s x l is)) (cyclic_below x v scenario least.is_cyclic)

-- ---- one first

-- the value of which it holds
value_of : {X : Type 0} (o : Option X) (P : X → Type 0) → IsSomeAnd o P → (x : X) × (o ≡ Some x) × P x
value_of None P h = absurd h
value_of (Some x) P h = (x, refl, h)

-- a scenario has one least operation before itself
one_least : (a b : Scenario) (v w : ℕ) → a ≡ b → IsLeastCyclic a v → IsLeastCyclic b w → v ≡ w
one_least a b v w same h k = elim (cases_lt v w) [
  | inl less ↦ absurd (k.least v less (subst (λ sc. IsBefore sc v v) same h.is_cyclic))
  | inr least ↦ elim (cases_lt w v) [
    | inl less ↦ absurd (h.least w less (subst (λ sc. IsBefore sc w w) (sym same) k.is_cyclic))
    | inr most ↦ omega arith
  ]
]

pub one_first : OneFirstCyclic
one_first xs s t v w h k =
    let a = value_of (slice_get xs s) (λ sc. IsLeastCyclic sc v) h.here in
    let b = value_of (slice_get xs t) (λ sc. IsLeastCyclic sc w) k.here in
    elim (cases_lt s t) [
      | inl less ↦ absurd (k.earlier s v a.0 less a.1 a.2.is_cyclic)
      | inr first ↦ elim (cases_lt t s) [
        | inl less ↦ absurd (h.earlier t w b.0 less b.1 b.2.is_cyclic)
        | inr latest ↦ let same : s ≡ t = omega arith in
            (same, one_least a.0 b.0 v w (same_Some a.0 b.0 (sym a.1 ∙ ap (slice_get xs) same ∙ b.1)) a.2 b.2)
      ]
    ]

pub cyclic_or_ordered : CyclicOrOrders
cyclic_or_ordered xs os s v h z =
    let a = value_of (slice_get xs s) (λ sc. IsLeastCyclic sc v) h.here in none_cyclic xs os z s v a.0 a.1 a.2.is_cyclic
