-- What each change of a netlist keeps.
use Rattle.std.proofs.Common.{◌≡◌, ◌≢◌, ◌⊎◌, ℕ, ◌<◌, ◌≤◌, false, IsTrue, List, [], length, Option, Some, None, IsSome, slice_index_or, slice_set, replicate, refl, sym, ap, subst, ◌∙◌, inl, inr, arith}
use Rattle.std.proofs.lemmas.Bool.{cases_eq, or_cases, eqb-true}
use Rattle.std.proofs.lemmas.List.{length-set, length-replicate, get_or-set_same, get_or-set_other}
use Rattle.std.specs.Cmp.{nat_cmp_total, unsigned_tied}
use Rattle.std.specs.FinSet as set
use Rattle.cpog_defs.specs.declared.types.Ref.{Ref}
use Rattle.cpog_defs.specs.declared.types.Ref.TheVariants.{Const}
use Rattle.cpog_defs.specs.Orders.{Set}
use Rattle.cpog_defs.specs.Gates.{GateList, IsRefOver, signal_count}
use Rattle.gate_core.proofs.GraphLemmas.{replicate_at, replicate_row_at, length-replicate_row}
use Rattle.handshake_eqs.specs.Netlists.{Netlist, wire_of, waits_of, IsWireOver, IsNetlist}
use Rattle.handshake_eqs.proofs.MachineLemmas.{none_in_empty}

-- the rows with another entry at a place
abbrev pub with_entry : {A : Type 0} → List (List A) → ℕ → ℕ → A → List (List A)
with_entry rows u v x = slice_set rows u (slice_set (slice_index_or rows u []) v x)

-- an entry of these is the new one, or as before
pub entry_changed : {A : Type 0} (rows : List (List A)) (u v : ℕ) (x d : A) (a b : ℕ) → u < length rows → v < length (slice_index_or rows u []) →
    ((a ≡ u) × (b ≡ v) × (slice_index_or (slice_index_or (with_entry rows u v x) a []) b d ≡ x))
    ⊎ ((a ≡ u → b ≡ v → ⊥) × (slice_index_or (slice_index_or (with_entry rows u v x) a []) b d ≡ slice_index_or (slice_index_or rows a []) b d))
entry_changed rows u v x d a b lu lv =
    let row = slice_index_or rows u [] in
    let changed = slice_set row v x in
    elim (cases_eq a u) [
      | inr other ↦ inr (λ p q. other p, ap (λ r. slice_index_or r b d) (get_or-set_other rows u a changed [] other))
      | inl same ↦
          let at : slice_index_or (with_entry rows u v x) a [] ≡ changed = rw same (get_or-set_same rows u changed [] lu) in
          elim (cases_eq b v) [
            | inl too ↦ inl (same, too, ap (λ r. slice_index_or r b d) at ∙ rw too (get_or-set_same row v x d lv))
            | inr other ↦ inr (λ p q. other q, ap (λ r. slice_index_or r b d) at ∙ get_or-set_other row v b x d other ∙ rw same refl)
          ]
    ]

pub row_length : {A : Type 0} (rows : List (List A)) (u v : ℕ) (x : A) (a : ℕ) → u < length rows → length (slice_index_or (with_entry rows u v x) a []) ≡ length (slice_index_or rows a [])
row_length rows u v x a lu =
    let changed = slice_set (slice_index_or rows u []) v x in
    elim (cases_eq a u) [
      | inl same ↦ rw same (ap length (get_or-set_same rows u changed [] lu) ∙ length-set (slice_index_or rows u []) v x)
      | inr other ↦ ap length (get_or-set_other rows u a changed [] other)
    ]

-- a netlist with one more arc wire
abbrev pub with_wire : Netlist → ℕ → ℕ → Ref → Netlist
with_wire n u v r = record { gates = n.gates; conditions = n.conditions; wires = with_entry n.wires u v (Some r); waits = n.waits }

pub netlist-with_wire : (n : Netlist) (u v : ℕ) (r : Ref) → IsNetlist n → u < length n.conditions → v < length n.conditions → u ≢ v → IsRefOver (signal_count n.gates) r → IsNetlist (with_wire n u v r)
netlist-with_wire n u v r is lu lv differ over =
    let lr : u < length n.wires = omega (arith, lu, is.wires) in
    let le : v < length (slice_index_or n.wires u []) = omega (arith, lv, is.rows u lu) in
    record {
      few = is.few;
      wires = length-set n.wires u (slice_set (slice_index_or n.wires u []) v (Some r)) ∙ is.wires;
      rows = λ a l. row_length n.wires u v (Some r) a lr ∙ is.rows a l;
      waits = is.waits;
      diagonal = λ a. elim (entry_changed n.wires u v (Some r) None a a lr le) [
        | inl x ↦ absurd (differ (sym x.0 ∙ x.1))
        | inr x ↦ x.1 ∙ is.diagonal a
      ];
      conditions_over = is.conditions_over;
      wires_over = λ a b. elim (entry_changed n.wires u v (Some r) None a b lr le) [
        | inl x ↦ subst (IsWireOver (signal_count n.gates)) (sym x.2) over
        | inr x ↦ subst (IsWireOver (signal_count n.gates)) (sym x.1) (is.wires_over a b)
      ];
      declared = λ a b w. elim (entry_changed n.wires u v (Some r) None a b lr le) [
        | inl x ↦ subst IsSome (sym x.2) refl
        | inr x ↦ subst IsSome (sym x.1) (is.declared a b w)
      ];
    }

-- a netlist with one more wait
abbrev pub with_wait : Netlist → ℕ → ℕ → Netlist
with_wait n u v = record { gates = n.gates; conditions = n.conditions; wires = n.wires; waits = slice_set n.waits v (set.insert (waits_of n v) u) }

waits_changed : (n : Netlist) (u v a b : ℕ) → v < length n.waits → IsTrue (set.contains (waits_of (with_wait n u v) b) a) → ((a ≡ u) × (b ≡ v)) ⊎ IsTrue (set.contains (waits_of n b) a)
waits_changed n u v a b lv h =
    let more = set.insert (waits_of n v) u in
    elim (cases_eq b v) [
      | inr other ↦ inr (sym (ap (λ s. set.contains s a) (get_or-set_other n.waits v b more set.empty other)) ∙ h)
      | inl same ↦
          let at : waits_of (with_wait n u v) b ≡ more = rw same (get_or-set_same n.waits v more set.empty lv) in
          elim (or_cases _ _ (sym (set.contains-insert nat_cmp_total (waits_of n v) u a) ∙ sym (ap (λ s. set.contains s a) at) ∙ h)) [
            | inl e ↦ inl (eqb-true a u (sym (unsigned_tied a u) ∙ e), same)
            | inr old ↦ inr (rw same old)
          ]
    ]

pub netlist-with_wait : (n : Netlist) (u v : ℕ) → IsNetlist n → v < length n.conditions → IsSome (wire_of n u v) → IsNetlist (with_wait n u v)
netlist-with_wait n u v is lv there = record {
  few = is.few;
  wires = is.wires;
  rows = is.rows;
  waits = length-set n.waits v (set.insert (waits_of n v) u) ∙ is.waits;
  diagonal = is.diagonal;
  conditions_over = is.conditions_over;
  wires_over = is.wires_over;
  declared = λ a b w. elim (waits_changed n u v a b (omega (arith, lv, is.waits)) w) [
    | inl x ↦ rw (x.0, x.1) there
    | inr old ↦ is.declared a b old
  ];
}

-- a netlist in which each condition is the constant 0, with no arc wire and no wait
abbrev pub zero_netlist : GateList → ℕ → Netlist
zero_netlist gates count = record { gates = gates; conditions = replicate count (Const false); wires = replicate count (replicate count None); waits = replicate count set.empty }

pub netlist-zero : (gates : GateList) (count : ℕ) → count ≤ 128 → IsNetlist (zero_netlist gates count)
netlist-zero gates count few =
    let n = zero_netlist gates count in
    let long = length-replicate count (Const false) in
    let none : (u v : ℕ) → wire_of n u v ≡ None = λ u v. replicate_row_at (replicate count None) count u v None (replicate_at count v None) in
    record {
      few = rw long few;
      wires = length-replicate count (replicate count None) ∙ sym long;
      rows = λ u l. length-replicate_row (replicate count None) count u (rw long at l) ∙ length-replicate count None ∙ sym long;
      waits = length-replicate count set.empty ∙ sym long;
      diagonal = λ u. none u u;
      conditions_over = λ v. subst (IsRefOver (signal_count gates)) (sym (replicate_at count v (Const false))) tt;
      wires_over = λ u v. subst (IsWireOver (signal_count gates)) (sym (none u v)) tt;
      declared = λ u v w. absurd (none_in_empty u (sym (ap (λ s. set.contains s u) (replicate_at count v set.empty)) ∙ w));
    }

-- equal parts make equal netlists
pub same_netlist : {gates : GateList} {c d : List Ref} {w x : List (List (Option Ref))} {s t : List Set} → c ≡ d → w ≡ x → s ≡ t →
    let whole : List Ref → List (List (Option Ref)) → List Set → Netlist = λ a b e. record { gates = gates; conditions = a; wires = b; waits = e } in whole c w s ≡ whole d x t
same_netlist p q r = rw (p, q, r) refl
