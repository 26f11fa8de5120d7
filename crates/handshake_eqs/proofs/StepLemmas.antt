-- Which steps there are.
use Rattle.std.proofs.Common.{◌≡◌, ◌≢◌, ◌↔◌, ℕ, suc, eqb, IfSome, IfNone, ◌<◌, ◌≤◌, true, false, IsTrue, List, [], ◌∷◌, length, Option, Some, None, slice_get, slice_index_or, IsSomeAnd, refl, sym, ap, subst, ◌∙◌, inl, inr, arith}
use Rattle.std.proofs.lemmas.Bool.{both_ways, or_cases, eqb-true}
use Rattle.std.proofs.lemmas.Bool.Decides.{Decides-eqb}
use Rattle.std.proofs.lemmas.Map.Steps.{length-le_from_distinct_below}
use Rattle.std.proofs.lemmas.Map.Made.{IsDistinct-from_AllPairs}
use Rattle.std.specs.List.{AllPairs, list_any}
use Rattle.std.proofs.lemmas.Option.{slice_get_within, slice_get-get_or}
use Rattle.std.specs.Cmp.{nat_cmp_total}
use Rattle.std.specs.FinSet as set
use Rattle.cpog_defs.specs.declared.types.OpId.{OpId}
use Rattle.cpog_defs.specs.declared.types.ScenId.{ScenId}
use Rattle.cpog_defs.specs.Orders.{Set, Order, has}
use Rattle.handshake_eqs.specs.declared.machine.Machine.{Machine}
use Rattle.handshake_eqs.specs.declared.machine.Machine.TheVariants.{Idle, Running, Returning}
use Rattle.handshake_eqs.specs.declared.machine.Event.{Event}
use Rattle.handshake_eqs.specs.declared.machine.Event.TheVariants.{Start, Ack, Finish, Drop}
use Rattle.handshake_eqs.proofs.MachineLemmas.{step_keeps}
use Rattle.handshake_eqs.specs.Machines.{Of, IsReady, AllAcked, Step, IsKept, IsMachineOf, IsReturned}

-- all acknowledged, as sets
pub all_from_subset : (acked : Set) (o : Order) → IsTrue (set.is_subset o.ops acked) → AllAcked acked o
all_from_subset acked o all v h = set.is_subset-contains nat_cmp_total o.ops acked all v h

pub subset_from_all : (acked : Set) (o : Order) → AllAcked acked o → IsTrue (set.is_subset o.ops acked)
subset_from_all acked o all = set.contains-is_subset nat_cmp_total o.ops acked all

-- what holds of the order at a place holds of the scenario there
pub of_order : (orders : List Order) (s : ℕ) (o : Order) (P : Order → Type 0) → slice_get orders s ≡ Some o → P o → Of orders s P
of_order orders s o P at h = subst (λ q. IsSomeAnd q P) (sym at) h

pub order_of : (orders : List Order) (s : ℕ) (o : Order) (P : Order → Type 0) → slice_get orders s ≡ Some o → Of orders s P → P o
order_of orders s o P at h = subst (λ q. IsSomeAnd q P) at h

module _ (orders : List Order) (codes : List ℕ) where
  pub finished : (s : ScenId) (acked : Set) (o : Order) (m : Machine) → slice_get orders s.0 ≡ Some o → AllAcked acked o → IsReturned s acked m → Step orders codes (Running s acked) Finish m
  finished s acked o Idle at all is = (of_order orders s.0 o (AllAcked acked) at all, is)
  finished s acked o (Running t other) at all is = absurd is
  finished s acked o (Returning t other) at all is = (is.0, of_order orders s.0 o (AllAcked acked) at all, is.2, is.1)

  pub not_finished : (s : ScenId) (acked : Set) (o : Order) (m : Machine) → slice_get orders s.0 ≡ Some o → (AllAcked acked o → ⊥) → Step orders codes (Running s acked) Finish m → ⊥
  not_finished s acked o Idle at none h = none (order_of orders s.0 o (AllAcked acked) at h.0)
  not_finished s acked o (Running t other) at none h = h
  not_finished s acked o (Returning t other) at none h = none (order_of orders s.0 o (AllAcked acked) at h.1)

  pub not_acknowledged : (s : ScenId) (acked : Set) (v : OpId) (o : Order) (m : Machine) →
      slice_get orders s.0 ≡ Some o → (IsReady acked v.0 o → set.contains acked v.0 ≡ false → ⊥) →
      Step orders codes (Running s acked) (Ack v) m → ⊥
  not_acknowledged s acked v o Idle at none h = h
  not_acknowledged s acked v o (Running t other) at none h = none (order_of orders s.0 o (IsReady acked v.0) at h.1) h.2
  not_acknowledged s acked v o (Returning t other) at none h = h

  pub dropped : (s : ScenId) (acked : Set) (v : OpId) (m : Machine) → IsTrue (set.contains acked v.0) → IsReturned s (set.remove acked v.0) m → Step orders codes (Returning s acked) (Drop v) m
  dropped s acked v Idle h is = (h, is)
  dropped s acked v (Running t other) h is = absurd is
  dropped s acked v (Returning t other) h is = (is.0, h, is.1, λ e. is.2 (sym is.1 ∙ e))

  pub not_dropped : (s : ScenId) (acked : Set) (v : OpId) (m : Machine) → set.contains acked v.0 ≡ false → Step orders codes (Returning s acked) (Drop v) m → ⊥
  not_dropped s acked v Idle none h = both_ways _ none h.0
  not_dropped s acked v (Running t other) none h = h
  not_dropped s acked v (Returning t other) none h = both_ways _ none h.1

  -- where nothing runs only a start is lawful, while running no start and no drop, while returning only a drop
  pub no_other_start : (event : Event) (m : Machine) → ((word : ℕ) → event ≡ Start word → ⊥) → Step orders codes Idle event m → ⊥
  no_other_start (Start word) m none h = none word refl
  no_other_start (Ack v) m none h = h
  no_other_start Finish m none h = h
  no_other_start (Drop v) m none h = h

  -- the scenario stays one of those there are
  pub step_within : (old : Machine) (event : Event) (new : Machine) → length codes ≡ length orders → IsMachineOf (length orders) old → Step orders codes old event new → IsMachineOf (length orders) new
  step_within Idle (Start w) (Running s acked) same within h = subst (λ n. s.0 < n) same (slice_get_within codes s.0 w h.0)
  step_within (Running s acked) (Ack v) (Running t new) same within h = subst (λ x. x.0 < length orders) (sym h.0) within
  step_within (Running s acked) Finish (Returning t new) same within h = subst (λ x. x.0 < length orders) (sym h.0) within
  step_within (Returning s acked) (Drop v) (Returning t new) same within h = subst (λ x. x.0 < length orders) (sym h.0) within
  step_within old event Idle same within h = tt
  step_within old event new same within h = absurd h

-- ready, as sets
pub ready_tells : (acked : Set) (v : ℕ) (o : Order) → IsTrue (has o v) → IsTrue (set.is_subset (slice_index_or o.before v set.empty) acked) ↔ IsReady acked v o
ready_tells acked v o has_it = (
  λ all. record { has_it = has_it; after = λ u b. set.is_subset-contains nat_cmp_total (slice_index_or o.before v set.empty) acked all u b },
  λ ready. set.contains-is_subset nat_cmp_total (slice_index_or o.before v set.empty) acked ready.after,
)

member_below : (n q : ℕ) (xs : List ℕ) → ((i : ℕ) → i < length xs → slice_index_or xs i 0 < n) → list_any (eqb q) xs ≡ true → q < n
member_below n q [] small h = absurd (both_ways _ refl h)
member_below n q (x ∷ xs) small h = elim (or_cases _ _ h) [
  | inl same ↦ rw (eqb-true q x same) (small 0 (omega arith))
  | inr rest ↦ member_below n q xs (λ i l. small (suc i) (omega (arith, l))) rest
]

-- distinct numbers below n are at most n
pub few_distinct : (n : ℕ) (xs : List ℕ) → AllPairs (λ a b. a ≢ b) xs → ((i : ℕ) → i < length xs → slice_index_or xs i 0 < n) → length xs ≤ n
few_distinct n xs distinct small = length-le_from_distinct_below xs n (IsDistinct-from_AllPairs Decides-eqb xs distinct) (λ q h. member_below n q xs small h)

if_some : (r : Option Machine) (P Q : Machine → Type 0) → ((m : Machine) → P m → Q m) → IfSome r P → IfSome r Q
if_some None P Q f h = h
if_some (Some m) P Q f h = f m h

pub if_none : (r : Option Machine) (A B : Type 0) → (A → B) → IfNone r A → IfNone r B
if_none None A B f h = f h
if_none (Some m) A B f h = h

-- what is said of a step that was found
pub record IsFound (orders : List Order) (codes : List ℕ) (old : Machine) (event : Event) (r : Option Machine) : Type 0 where
  pub some : IfSome r (λ m. Step orders codes old event m)
  pub kept : IfSome r (λ m. IsKept orders old → IsKept orders m)
  pub scenario : IfSome r (λ m. IsMachineOf (length orders) m)

pub is_found : (orders : List Order) (codes : List ℕ) (old : Machine) (event : Event) (r : Option Machine) (P : Machine → Type 0) → length codes ≡ length orders → IsMachineOf (length orders) old →
    ((m : Machine) → P m → Step orders codes old event m) → IfSome r P → IsFound orders codes old event r
is_found orders codes old event r P same within f h = record {
  some = if_some r P _ f h;
  kept = if_some r P _ (λ m p kept. step_keeps orders codes same old event m kept (f m p)) h;
  scenario = if_some r P _ (λ m p. step_within orders codes old event m same within (f m p)) h;
}

-- the order of the running scenario is there
pub order_there : (orders : List Order) (s : ScenId) (acked : Set) (m : Machine) (o : Order) → m ≡ Running s acked →
    IsMachineOf (length orders) m → o ≡ slice_index_or orders s.0 o → slice_get orders s.0 ≡ Some o
order_there orders s acked m o is within at =
    let l : s.0 < length orders = subst (IsMachineOf (length orders)) is within in
    slice_get-get_or orders s.0 o l ∙ ap Some (sym at)
