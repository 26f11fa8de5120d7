-- The outputs of an encoding's netlist in each state that a run reaches.
use Rattle.std.proofs.Common.{◌≡◌, ◌≢◌, ℕ, ◌<◌, Bool, true, false, not, ◌||◌, IsTrue, Decides, List, length, Option, Some, None, IsSome, is_some, All, slice_get, slice_index_or, IsSomeAnd, refl, sym, ap, subst, ◌∙◌, inl, inr, arith}
use Rattle.std.proofs.lemmas.Bool.{cases_Bool, both_ways, or_cases, or_left, or_right, and_parts, and_from, not-true, not_from_false, false_from_ne_true, ne_eqb}
use Rattle.std.proofs.lemmas.Bool.Decides.{Decides-below_or, Decides-below_and}
use Rattle.std.proofs.lemmas.List.Elements.{All-get_or}
use Rattle.std.proofs.lemmas.Option.{slice_get_within, get_or_from_slice_get}
use Rattle.std.specs.Ordering.{nat_cmp}
use Rattle.std.specs.Cmp.{nat_cmp_total}
use Rattle.std.specs.FinSet as set
use Rattle.std.specs.FinSet.{nat_cmp-IsAntisymmetric}
use Rattle.cpog_defs.specs.declared.types.Ref.{Ref}
use Rattle.cpog_defs.specs.declared.types.Ref.TheVariants.{Const, Signal}
use Rattle.cpog_defs.specs.declared.types.ScenId.{ScenId}
use Rattle.cpog_defs.specs.Walks.{last}
use Rattle.cpog_defs.specs.Orders.{Set, Order, IsOrderOf, is_before, any_below, all_below}
use Rattle.cpog_defs.specs.Gates.{ref_value, signal_values}
use Rattle.cpog_defs.specs.Graphs.{ConditionalGraph, arc_ref, keeps, keeps_arc, ProjectsTo}
use Rattle.cpog_defs.specs.Encodings.{Encoding, IsEncoding, Fits}
use Rattle.handshake_eqs.specs.declared.machine.Machine.{Machine}
use Rattle.handshake_eqs.specs.declared.machine.Machine.TheVariants.{Idle, Running, Returning}
use Rattle.handshake_eqs.specs.Netlists.{Netlist, wire_of, waits_of, unless_zero, IsNetlistOf}
use Rattle.handshake_eqs.specs.Machines.{IsReady, AllAcked, IsClosed, IsPart, IsKept}
use Rattle.handshake_eqs.specs.Agreement.{condition_value, wire_value, arc_satisfied, request_enabled, all_acknowledged, request, done, idle, AgreesWithState, AgreesOverRuns}
use Rattle.handshake_eqs.proofs.WalkLemmas.{last_arc}
use Rattle.handshake_eqs.proofs.MachineLemmas.{none_in_empty, run_keeps}

pub all_tells : (p : ℕ → Bool) (n : ℕ) → Decides (all_below p n) ((z : ℕ) → z < n → IsTrue (p z))
all_tells p n = Decides-below_and p (λ z. IsTrue (p z)) (all_below p) (λ z. (λ h. h, λ h. h)) refl (λ _. refl) n

pub any_tells : (p : ℕ → Bool) (n : ℕ) → Decides (any_below p n) ((z : ℕ) × (z < n) × IsTrue (p z))
any_tells p n = Decides-below_or p (λ z. IsTrue (p z)) (any_below p) (λ z. (λ h. h, λ h. h)) refl (λ _. refl) n

-- with the first part of no use, the second holds
second_of : (x y : Bool) → IsTrue (not x || y) → IsTrue x → IsTrue y
second_of x y h t = rw t at h

-- acknowledged where it is waited for, there, and with its arc there
satisfied_where : (w a k r : Bool) → (IsTrue w → IsTrue k → IsTrue r → IsTrue a) → IsTrue (not w || (a || (not k || not r)))
satisfied_where false a k r h = refl
satisfied_where true true k r h = refl
satisfied_where true false true true h = h refl refl refl
satisfied_where true false true false h = refl
satisfied_where true false false r h = refl

-- an arc wire has the value of its condition, and is declared where that isn't the constant 0
pub wire-unless_zero : (values : List Bool) (r : Ref) → wire_value values (unless_zero r) ≡ ref_value values r
wire-unless_zero values (Const false) = refl
wire-unless_zero values (Const true) = refl
wire-unless_zero values (Signal number negated) = refl

declared_where : (values : List Bool) (r : Ref) → IsTrue (ref_value values r) → IsSome (unless_zero r)
declared_where values (Const false) h = absurd (both_ways _ refl h)
declared_where values (Const true) h = refl
declared_where values (Signal number negated) h = refl

undeclared : (w : Option Ref) → w ≡ None → IsSome w → ⊥
undeclared w e s = both_ways _ (ap is_some e) s

record Kept (graph : ConditionalGraph) (values : List Bool) (u v : ℕ) : Type 0 where
  first : IsTrue (keeps graph values u)
  second : IsTrue (keeps graph values v)
  itself : IsTrue (ref_value values (arc_ref graph u v))

kept_tells : (graph : ConditionalGraph) (values : List Bool) (u v : ℕ) → IsTrue (keeps_arc graph values u v) → Kept graph values u v
kept_tells graph values u v h =
    let a = and_parts _ _ h in let b = and_parts _ _ a.1 in let c = and_parts _ _ b.1 in
    record { first = b.0; second = c.0; itself = c.1 }

kept_arc : (graph : ConditionalGraph) (values : List Bool) (u v : ℕ) → u ≢ v → IsTrue (keeps graph values u) →
    IsTrue (keeps graph values v) → IsTrue (ref_value values (arc_ref graph u v)) →
    IsTrue (keeps_arc graph values u v)
kept_arc graph values u v ne a b c = and_from _ _ (not_from_false _ (ne_eqb u v ne)) (and_from _ _ a (and_from _ _ b c))

module _ (e : Encoding) (n : Netlist) (nl : IsNetlistOf e n) (values : List Bool) (o : Order) (ord : IsOrderOf (length e.graph.ops) o)
    (p : ProjectsTo e.graph values o.ops (λ u v. IsTrue (is_before o u v))) where
  condition_is : (v : ℕ) → condition_value n values v ≡ keeps e.graph values v
  condition_is v = ap (λ ops. ref_value values (slice_index_or ops v (Const false))) nl.conditions

  wire_is : (u v : ℕ) → wire_value values (wire_of n u v) ≡ ref_value values (arc_ref e.graph u v)
  wire_is u v = ap (wire_value values) (nl.wires u v) ∙ wire-unless_zero values (arc_ref e.graph u v)

  below : (v : ℕ) → IsTrue (set.contains o.ops v) → v < length n.conditions
  below v h = omega (arith, ord.order.below v h, ord.count_is, ap length nl.conditions)

  -- an arc that is left is waited for
  waited : (acked : Set) (u v : ℕ) → IsTrue (request_enabled n values acked v) → IsTrue (keeps_arc e.graph values u v) → IsTrue (set.contains acked u)
  waited acked u v h arc =
      let k = kept_tells e.graph values u v arc in
      let each = (all_tells (λ u. not (set.contains (waits_of n v) u) || arc_satisfied n values acked v u) (length n.conditions)).0 (and_parts _ _ h).1 u (below u ((p.operations u).0 k.first)) in
      let waits_for = (nl.waits u v).1 (subst IsSome (sym (nl.wires u v)) (declared_where values _ k.itself)) in
      elim (or_cases _ _ (second_of _ _ each waits_for)) [
        | inl a ↦ a
        | inr b ↦ absurd (elim (or_cases _ _ b) [
          | inl c ↦ both_ways _ (not-true _ c) (condition_is u ∙ k.first)
          | inr c ↦ both_ways _ (not-true _ c) (wire_is u v ∙ k.itself)
        ])
      ]

  pub ready_from : (acked : Set) (v : ℕ) → IsClosed acked o → IsTrue (request_enabled n values acked v) → IsReady acked v o
  ready_from acked v closed h = record {
    has_it = (p.operations v).0 (sym (condition_is v) ∙ (and_parts _ _ h).0);
    after = λ u b. elim (last_arc ((p.before u v).1 b)) [
      | inl arc ↦ waited acked u v h arc
      | inr x ↦ closed.closed u x.0 ((p.before u x.0).0 x.1) (waited acked x.0 v h x.2)
    ];
  }

  pub enabled_from : (acked : Set) (v : ℕ) → IsReady acked v o → IsTrue (request_enabled n values acked v)
  enabled_from acked v ready =
      let kept = (p.operations v).1 ready.has_it in
      and_from _ _ (condition_is v ∙ kept) ((all_tells (λ u. not (set.contains (waits_of n v) u) || arc_satisfied n values acked v u) (length n.conditions)).1 (λ u l.
      satisfied_where _ _ _ _ (λ t ku ka.
      let ne : u ≢ v = λ same. undeclared _ (rw same (nl.netlist.diagonal v)) ((nl.waits u v).0 t) in
      ready.after u ((p.before u v).0 (last (kept_arc e.graph values u v ne (sym (condition_is u) ∙ ku) kept (sym (wire_is u v) ∙ ka)))))))

  pub all_tell : (acked : Set) → IsTrue (all_acknowledged n values acked) → AllAcked acked o
  all_tell acked h v has_it =
      elim (or_cases _ _ ((all_tells (λ v. set.contains acked v || not (condition_value n values v)) (length n.conditions)).0 h v (below v has_it))) [
        | inl a ↦ a
        | inr b ↦ absurd (both_ways _ (not-true _ b) (condition_is v ∙ (p.operations v).1 has_it))
      ]

  pub all_from : (acked : Set) → AllAcked acked o → IsTrue (all_acknowledged n values acked)
  all_from acked all =
      (all_tells (λ v. set.contains acked v || not (condition_value n values v)) (length n.conditions)).1
      (λ v l. elim (cases_Bool (condition_value n values v)) [
        | inr f ↦ or_right _ _ (not_from_false _ f)
        | inl k ↦ or_left _ _ (all v ((p.operations v).0 (sym (condition_is v) ∙ k)))
      ])

  -- some operation is acknowledged
  pub not_none : (acked : Set) → IsPart acked o → any_below (set.contains acked) (length n.conditions) ≡ false → ⊥
  not_none acked part none =
      part.some (set.same_set nat_cmp_total nat_cmp-IsAntisymmetric acked set.empty (λ q.
      false_from_ne_true _ (λ t. both_ways _ none ((any_tells (set.contains acked) (length n.conditions)).1 (q, below q (part.inside q t), t)))
      ∙ sym (set.contains-empty nat_cmp q)))

of_tells : (q : Option Order) (P : Order → Type 0) → IsSomeAnd q P → (o : Order) × (q ≡ Some o) × P o
of_tells None P h = absurd h
of_tells (Some o) P h = (o, refl, h)

of_at : (q : Option Order) (P : Order → Type 0) (o : Order) → q ≡ Some o → P o → IsSomeAnd q P
of_at q P o e h = rw e h

order_at : (count : ℕ) (orders : List Order) (s : ℕ) (o : Order) → All (IsOrderOf count) orders → slice_get orders s ≡ Some o → IsOrderOf count o
order_at count orders s o are at =
    subst (IsOrderOf count) (get_or_from_slice_get orders s o o at) (All-get_or (IsOrderOf count) orders s o (slice_get_within orders s o at) are)

module _ (e : Encoding) (n : Netlist) (nl : IsNetlistOf e n) (orders : List Order) (are : All (IsOrderOf (length e.graph.ops)) orders) (fits : Fits e orders) where
  running : (s : ScenId) (acked : Set) (o : Order) → slice_get orders s.0 ≡ Some o → IsClosed acked o → AgreesWithState n orders e.codes (Running s acked)
  running s acked o at closed i h =
      let ord = order_at (length e.graph.ops) orders s.0 o are at in
      let values = signal_values e.gates i.x in
      let p = fits.projects s.0 i.x o h.0 at in
      let requested : (v : ℕ) → request n i v ≡ request_enabled n values acked v = λ v. rw (h.1, h.2, nl.gates) refl in
      let finished : done n i ≡ all_acknowledged n values acked = rw (h.1, h.2, nl.gates) refl in
      let resting : idle n i ≡ false = rw h.1 refl in
      record {
        requests = λ v. (
          λ t. of_at _ (IsReady acked v) o at (ready_from e n nl values o ord p acked v closed (sym (requested v) ∙ t)),
          λ r. requested v ∙ enabled_from e n nl values o ord p acked v (rw at at r),
        );
        done = (
          λ t. of_at _ (AllAcked acked) o at (all_tell e n nl values o ord p acked (sym finished ∙ t)),
          λ r. finished ∙ all_from e n nl values o ord p acked (rw at at r),
        );
        idle = (λ t. absurd (both_ways _ resting t), λ same. cc);
      }

  returning : (s : ScenId) (acked : Set) (o : Order) → slice_get orders s.0 ≡ Some o → IsPart acked o → AgreesWithState n orders e.codes (Returning s acked)
  returning s acked o at part i h =
      let ord = order_at (length e.graph.ops) orders s.0 o are at in
      let p = fits.projects s.0 i.x o h.0 at in
      let requested : (v : ℕ) → request n i v ≡ false = λ v. rw h.1 refl in
      let finished : done n i ≡ false = rw h.1 refl in
      record {
        requests = λ v. (λ t. absurd (both_ways _ (requested v) t), λ r. absurd r);
        done = (λ t. absurd (both_ways _ finished t), λ r. absurd r);
        idle = (
          λ t.
              let none : any_below (set.contains i.acks) (length n.conditions) ≡ false = not-true _ (and_parts _ _ t).1 in
              absurd (not_none e n nl (signal_values e.gates i.x) o ord p acked part (rw h.2 at none)),
          λ same. cc,
        );
      }

  none_at_start : (k : ℕ) → any_below (set.contains {R = nat_cmp} set.empty) k ≡ false
  none_at_start k = false_from_ne_true _ (λ t. let x = (any_tells (set.contains set.empty) k).0 t in none_in_empty x.0 x.2)

  idling : AgreesWithState n orders e.codes Idle
  idling i h =
      let requested : (v : ℕ) → request n i v ≡ false = λ v. rw h.0 refl in
      let finished : done n i ≡ false = rw h.0 refl in
      record {
        requests = λ v. (λ t. absurd (both_ways _ (requested v) t), λ r. absurd r);
        done = (λ t. absurd (both_ways _ finished t), λ r. absurd r);
        idle = (λ t. refl, λ same. and_from _ _ (not_from_false _ h.0) (not_from_false _ (rw h.1 (none_at_start (length n.conditions)))));
      }

  pub agrees : (m : Machine) → IsKept orders m → AgreesWithState n orders e.codes m
  agrees Idle kept = idling
  agrees (Running s acked) kept = let x = of_tells (slice_get orders s.0) (IsClosed acked) kept in running s acked x.0 x.1 x.2
  agrees (Returning s acked) kept = let x = of_tells (slice_get orders s.0) (IsPart acked) kept in returning s acked x.0 x.1 x.2

-- over every run of lawful events
pub agrees_over_runs : (e : Encoding) (n : Netlist) → IsEncoding (length e.graph.ops) e → IsNetlistOf e n → AgreesOverRuns e n
agrees_over_runs e n is nl orders are fits events m run =
    agrees e n nl orders are fits m (run_keeps orders e.codes fits.one_code_each events Idle m tt run)
