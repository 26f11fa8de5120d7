-- What every event keeps.
use Rattle.std.proofs.Common.{◌≡◌, ◌≢◌, ℕ, ◌⊎◌, IsTrue, List, [], ◌∷◌, length, Option, Some, None, slice_get, IsSomeAnd, sym, ◌∙◌, subst, inl, inr, arith}
use Rattle.std.proofs.lemmas.Bool.{both_ways, or_cases, or_right, and_parts, eqb-true}
use Rattle.std.proofs.lemmas.Option.{slice_get_within, slice_get_cases}
use Rattle.std.specs.Ordering.{nat_cmp}
use Rattle.std.specs.Cmp.{nat_cmp_total, unsigned_tied}
use Rattle.std.specs.FinSet as set
use Rattle.cpog_defs.specs.Orders.{Set, Order}
use Rattle.handshake_eqs.specs.declared.machine.Machine.{Machine}
use Rattle.handshake_eqs.specs.declared.machine.Machine.TheVariants.{Idle, Running, Returning}
use Rattle.handshake_eqs.specs.declared.machine.Event.{Event}
use Rattle.handshake_eqs.specs.declared.machine.Event.TheVariants.{Start, Ack, Finish, Drop}
use Rattle.handshake_eqs.specs.Machines.{IsReady, Step, Run, IsClosed, IsPart, IsKept}

pub none_in_empty : (v : ℕ) → IsTrue (set.contains {R = nat_cmp} set.empty v) → ⊥
none_in_empty v h = both_ways _ (set.contains-empty nat_cmp v) h

in_insert : (acked : Set) (k v : ℕ) → IsTrue (set.contains (set.insert acked k) v) → (v ≡ k) ⊎ IsTrue (set.contains acked v)
in_insert acked k v h = elim (or_cases _ _ (sym (set.contains-insert nat_cmp_total acked k v) ∙ h)) [
  | inl same ↦ inl (eqb-true v k (sym (unsigned_tied v k) ∙ same))
  | inr rest ↦ inr rest
]

insert_keeps : (acked : Set) (k v : ℕ) → IsTrue (set.contains acked v) → IsTrue (set.contains (set.insert acked k) v)
insert_keeps acked k v h = set.contains-insert nat_cmp_total acked k v ∙ or_right _ _ h

in_remove : (acked : Set) (k v : ℕ) → IsTrue (set.contains (set.remove acked k) v) → IsTrue (set.contains acked v)
in_remove acked k v h = (and_parts _ _ (sym (set.contains-remove nat_cmp_total acked k v) ∙ h)).1

start_keeps : (q : Option Order) (x : Order) → q ≡ Some x → IsSomeAnd q (IsClosed set.empty)
start_keeps None x e = cc
start_keeps (Some o) x e = record {
  inside = λ v h. absurd (none_in_empty v h);
  closed = λ u v b h. absurd (none_in_empty v h);
}

ack_keeps : (q : Option Order) (acked : Set) (k : ℕ) → IsSomeAnd q (IsReady acked k) → IsSomeAnd q (IsClosed acked) → IsSomeAnd q (IsClosed (set.insert acked k))
ack_keeps None acked k ready kept = ready
ack_keeps (Some o) acked k ready kept = record {
  inside = λ v h. elim (in_insert acked k v h) [
    | inl same ↦ rw same ready.has_it
    | inr rest ↦ kept.inside v rest
  ];
  closed = λ u v b h. elim (in_insert acked k v h) [
    | inl same ↦ insert_keeps acked k u (ready.after u (rw same at b))
    | inr rest ↦ insert_keeps acked k u (kept.closed u v b rest)
  ];
}

finish_keeps : (q : Option Order) (acked : Set) → acked ≢ set.empty → IsSomeAnd q (IsClosed acked) → IsSomeAnd q (IsPart acked)
finish_keeps None acked ne kept = kept
finish_keeps (Some o) acked ne kept = record { inside = kept.inside; some = ne }

drop_keeps : (q : Option Order) (acked : Set) (k : ℕ) → set.remove acked k ≢ set.empty → IsSomeAnd q (IsPart acked) → IsSomeAnd q (IsPart (set.remove acked k))
drop_keeps None acked k ne kept = kept
drop_keeps (Some o) acked k ne kept = record { inside = λ v h. kept.inside v (in_remove acked k v h); some = ne }

-- the place of a code is the place of a scenario
pub scenario_there : {A : Type 0} (orders : List Order) (codes : List A) (s : ℕ) (w : A) → length codes ≡ length orders → slice_get codes s ≡ Some w → (o : Order) × (slice_get orders s ≡ Some o)
scenario_there orders codes s w same h =
    let l = slice_get_within codes s w h in
    elim (slice_get_cases orders s).1 [ inl x ↦ (x.0, x.2) | inr x ↦ absurd (omega (arith, l, same, x.0)) ]

module _ (orders : List Order) (codes : List ℕ) (same : length codes ≡ length orders) where
  -- every lawful event keeps the facts
  pub step_keeps : (old : Machine) (event : Event) (new : Machine) → IsKept orders old → Step orders codes old event new → IsKept orders new
  step_keeps Idle (Start w) (Running s acked) kept h =
      let o = scenario_there orders codes s.0 w same h.0 in
      rw h.1 (start_keeps (slice_get orders s.0) o.0 o.1)
  step_keeps (Running s acked) (Ack v) (Running t new) kept h = rw (h.0, h.3) (ack_keeps (slice_get orders s.0) acked v.0 h.1 kept)
  step_keeps (Running s acked) Finish (Returning t new) kept h = rw (h.0, h.3) (finish_keeps (slice_get orders s.0) acked h.2 kept)
  step_keeps (Returning s acked) (Drop v) (Returning t new) kept h = rw (h.0, h.2) (drop_keeps (slice_get orders s.0) acked v.0 (rw h.2 at h.3) kept)
  step_keeps old event Idle kept h = tt
  step_keeps old event new kept h = absurd h

  pub run_keeps : (events : List Event) (old new : Machine) → IsKept orders old → Run orders codes old events new → IsKept orders new
  run_keeps [] old new kept run = subst (IsKept orders) (sym run) kept
  run_keeps (event ∷ events) old new kept run = run_keeps events run.0 new (step_keeps old event run.0 kept run.1) run.2
