-- The acknowledges that an operation still waits for, as a loop takes them out one by one.
use Rattle.std.proofs.Common.{◌≡◌, ℕ, ◌<◌, List, [], slice_index_or, Bool, true, false, not, ◌==◌, ◌&&◌, ◌||◌, IsTrue, length, IsSome, None, refl, sym, ap, subst, ◌∙◌, inl, inr, arith}
use Rattle.std.proofs.lemmas.Bool.{cases_eq, cases_lt, and_parts, not-true, ne_eqb, both_ways, or_right}
use Rattle.std.proofs.lemmas.List.{get_or_past}
use Rattle.std.specs.Cmp.{nat_cmp_total, unsigned_tied}
use Rattle.std.specs.FinSet as set
use Rattle.cpog_defs.specs.Orders.{Set}
use Rattle.handshake_eqs.specs.Netlists.{Netlist, wire_of, waits_of, IsNetlist}
use Rattle.handshake_eqs.specs.Agreement.{condition_value, wire_value, arc_satisfied}
use Rattle.handshake_eqs.proofs.MachineLemmas.{none_in_empty}

-- those are waited for and not acknowledged, and whatever else is waited for is satisfied
pub record AreMissing (n : Netlist) (values : List Bool) (acks : Set) (v : ℕ) (missing : Set) : Type 0 where
  pub awaited : (u : ℕ) → IsTrue (set.contains missing u) → IsTrue (set.contains (waits_of n v) u)
  pub unacknowledged : (u : ℕ) → IsTrue (set.contains missing u) → set.contains acks u ≡ false
  pub others : (u : ℕ) → set.contains missing u ≡ false → IsTrue (not (set.contains (waits_of n v) u) || arc_satisfied n values acks v u)

acknowledged : (w a x : Bool) → (w && not a) ≡ false → (not w || (a || x)) ≡ true
acknowledged false a x h = refl
acknowledged true true x h = refl
acknowledged true false x h = absurd (both_ways true h refl)

one_is_zero : (a k r : Bool) → (k && r) ≡ false → (a || (not k || not r)) ≡ true
one_is_zero true k r h = refl
one_is_zero false false r h = refl
one_is_zero false true r h = rw h refl

pub missing_first : (n : Netlist) (values : List Bool) (acks : Set) (v : ℕ) → AreMissing n values acks v (set.difference (waits_of n v) acks)
missing_first n values acks v =
    let parts = λ (u : ℕ). set.contains-difference nat_cmp_total (waits_of n v) acks u in
    record {
      awaited = λ u h. (and_parts _ _ (sym (parts u) ∙ h)).0;
      unacknowledged = λ u h. not-true _ (and_parts _ _ (sym (parts u) ∙ h)).1;
      others = λ u h. acknowledged _ _ _ (sym (parts u) ∙ h);
    }

without : (s : Set) (k u : ℕ) → set.contains (set.remove s k) u ≡ (not (u == k) && set.contains s u)
without s k u = set.contains-remove nat_cmp_total s k u ∙ ap (λ b. not b && set.contains s u) (unsigned_tied u k)

passed : (a b : Bool) → a ≡ false → (not a && b) ≡ false → b ≡ false
passed a b p h = rw p at h

-- one of them turns out to be satisfied
pub missing_next : (n : Netlist) (values : List Bool) (acks : Set) (v : ℕ) (missing : Set) (k : ℕ) → AreMissing n values acks v missing →
    (condition_value n values k && wire_value values (wire_of n k v)) ≡ false → AreMissing n values acks v (set.remove missing k)
missing_next n values acks v missing k are satisfied = record {
  awaited = λ u h. are.awaited u (and_parts _ _ (sym (without missing k u) ∙ h)).1;
  unacknowledged = λ u h. are.unacknowledged u (and_parts _ _ (sym (without missing k u) ∙ h)).1;
  others = λ u h. elim (cases_eq u k) [
    | inl same ↦ rw same (or_right (not (set.contains (waits_of n v) k)) _ (one_is_zero (set.contains acks k) _ _ satisfied))
    | inr other ↦ are.others u (passed _ _ (ne_eqb u k other) (sym (without missing k u) ∙ h))
  ];
}

pub fewer_missing : (s : Set) (k : ℕ) → IsTrue (set.contains s k) → set.len (set.remove s k) < set.len s
fewer_missing s k h = elim (cases_eq (set.len s) 0) [
  | inl none ↦ absurd (none_in_empty k (sym (ap (λ t. set.contains t k) (set.empty_of_len s none)) ∙ h))
  | inr some ↦ rw (set.len-remove nat_cmp_total s k, h) (omega (arith, some))
]

-- what is waited for is an operation of the netlist
pub awaited_below : (n : Netlist) (v u : ℕ) → IsNetlist n → IsTrue (set.contains (waits_of n v) u) → u < length n.conditions
awaited_below n v u is h = elim (cases_lt u (length n.conditions)) [
  | inl lt ↦ lt
  | inr past ↦ absurd (
      let none : wire_of n u v ≡ None = ap (λ row. slice_index_or row v None) (get_or_past n.wires u [] (omega (arith, past, is.wires))) in
      both_ways _ refl (subst IsSome none (is.declared u v h)))
]
