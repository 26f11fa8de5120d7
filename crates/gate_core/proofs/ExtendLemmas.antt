-- Lists of gates to which gates are appended: earlier signals keep their values.
use Rattle.std.proofs.Common.{◌≡◌, ℕ, suc, ◌+◌, ◌<◌, ◌≤◌, ◌==◌, Bool, true, false, not, cond, ◌||◌, ◌&&◌, if◌then◌else◌, List, [], ◌∷◌, ◌++◌, length, slice_index_or, slice_get, Some, refl, sym, ap, ◌∙◌, subst, inl, inr, arith, length-append, append_assoc, append-nil}
use Rattle.std.specs.List.{list_any, position_or_len}
use Rattle.std.proofs.lemmas.Bool.{both_ways, cases_Bool, and_parts, eqb-true}
use Rattle.std.proofs.lemmas.List.{get_or_at}
use Rattle.std.proofs.lemmas.Option.{slice_get_within}
use Rattle.cpog_defs.specs.declared.types.Gate.{Gate}
use Rattle.cpog_defs.specs.Codes.{word_bits}
use Rattle.cpog_defs.specs.Gates.{GateList, IsGateList, signal_count, signal_values, gate_value, with_gates}
use Rattle.gate_core.specs.First.{same_gate, Reached, with_gate}
use Rattle.gate_core.specs.Words.{value_at}
use Rattle.gate_core.proofs.GateLemmas.{with_gates_append, with_gates_push, next_value, earlier_signal, length-signal_values, one_more_gate, gate-signal}

-- the second list has the gates of the first and further ones behind
pub record Extends (a b : GateList) : Type 0 where
  pub inputs : b.inputs ≡ a.inputs
  pub more : List Gate
  pub gates : b.gates ≡ a.gates ++ more

pub extends_self : (a : GateList) → Extends a a
extends_self a = record { inputs = refl; more = []; gates = sym (append-nil a.gates) }

pub extends_trans : (a b c : GateList) → Extends a b → Extends b c → Extends a c
extends_trans a b c x y = record {
  inputs = y.inputs ∙ x.inputs;
  more = x.more ++ y.more;
  gates = y.gates ∙ ap (λ gates. gates ++ y.more) x.gates ∙ append_assoc a.gates x.more y.more;
}

pub extends-le : (a b : GateList) → Extends a b → length a.gates ≤ length b.gates
extends-le a b x = omega (arith, ap length x.gates, length-append a.gates x.more)

pub extends-count : (a b : GateList) → Extends a b → signal_count a ≤ signal_count b
extends-count a b x = omega (arith, extends-le a b x, x.inputs)

pub extends-value : (a b : GateList) → Extends a b → (n s : ℕ) → n < signal_count a → value_at b n s ≡ value_at a n s
extends-value a b x n s l =
    ap (λ i. slice_index_or (with_gates b.gates (word_bits s i)) n false) x.inputs
    ∙ ap (λ gates. slice_index_or (with_gates gates (word_bits s a.inputs)) n false) x.gates
    ∙ ap (λ values. slice_index_or values n false) (with_gates_append a.gates x.more (word_bits s a.inputs))
    ∙ earlier_signal x.more (signal_values a s) n (omega (arith, length-signal_values a s))

-- ---- one gate more

abbrev pub with_last : GateList → Gate → GateList
with_last list gate = record { inputs = list.inputs; gates = list.gates ++ gate ∷ [] }

pub extends_last : (list : GateList) (gate : Gate) → Extends list (with_last list gate)
extends_last list gate = record { inputs = refl; more = gate ∷ []; gates = refl }

pub last-value : (list : GateList) (gate : Gate) (s : ℕ) → value_at (with_last list gate) (signal_count list) s ≡ gate_value gate.table (value_at list gate.j s) (value_at list gate.k s)
last-value list gate s =
    ap (λ values. slice_index_or values (signal_count list) false) (with_gates_push list.gates gate (word_bits s list.inputs))
    ∙ get_or_at (signal_values list s) (next_value gate (signal_values list s)) [] false (signal_count list) (length-signal_values list s)

-- ---- a gate that is there, or not

pub same_gates : (a b : Gate) → same_gate a b ≡ true → b ≡ a
same_gates a b h =
    let outer = and_parts ((a.j == b.j) && (a.k == b.k)) (a.table == b.table) h in
    let inner = and_parts (a.j == b.j) (a.k == b.k) outer.0 in
    let make : ℕ → ℕ → ℕ → Gate = λ j k table. record { j = j; k = k; table = table } in
    ap (λ j. make j b.k b.table) (sym (eqb-true a.j b.j inner.0)) ∙ ap (λ k. make a.j k b.table) (sym (eqb-true a.k b.k inner.1)) ∙ ap (make a.j a.k) (sym (eqb-true a.table b.table outer.1))

module _ {X : Type 0} (p : X → Bool) where
  next : (x : X) (xs : List X) (n : ℕ) (y : X) → slice_get xs n ≡ Some y → slice_get (x ∷ xs) (1 + n) ≡ Some y
  next x xs n y h = let e : suc n ≡ 1 + n = omega arith in subst (λ k. slice_get (x ∷ xs) k ≡ Some y) e h

  pub found : (xs : List X) → list_any p xs ≡ true → (x : X) × (slice_get xs (position_or_len p xs) ≡ Some x) × (p x ≡ true)
  found [] h = absurd (both_ways _ refl h)
  found (x ∷ xs) h = elim (p x) as (λ b. (b || list_any p xs) ≡ true → p x ≡ b → (y : X) × (slice_get (x ∷ xs) (cond (not b) (1 + position_or_len p xs) 0) ≡ Some y) × (p y ≡ true)) [
    | true ↦ λ _ e. (x, refl, e)
    | false ↦ λ rest _. let r = found xs rest in (r.0, next x xs (position_or_len p xs) r.0 r.1, r.2)
  ] h refl

  pub missing : (xs : List X) → list_any p xs ≡ false → position_or_len p xs ≡ length xs
  missing [] h = refl
  missing (x ∷ xs) h = elim (p x) as (λ b. (b || list_any p xs) ≡ false → cond (not b) (1 + position_or_len p xs) 0 ≡ length (x ∷ xs)) [
    | true ↦ λ no. absurd (both_ways _ no refl)
    | false ↦ λ rest. omega (arith, missing xs rest)
  ] h

pub with_gate-there : (list : GateList) (gate : Gate) → list_any (same_gate gate) list.gates ≡ true → (with_gate list gate).gates ≡ list
unfolding with_gate
with_gate-there list gate there = ap (λ b. let r : GateList = record { inputs = list.inputs; gates = if b then list.gates else list.gates ++ gate ∷ [] } in r) there

pub with_gate-new : (list : GateList) (gate : Gate) → list_any (same_gate gate) list.gates ≡ false → (with_gate list gate).gates ≡ with_last list gate
unfolding with_gate
with_gate-new list gate new = ap (λ b. let r : GateList = record { inputs = list.inputs; gates = if b then list.gates else list.gates ++ gate ∷ [] } in r) new

pub with_gate-signal : (list : GateList) (gate : Gate) → (with_gate list gate).signal ≡ list.inputs + position_or_len (same_gate gate) list.gates
unfolding with_gate
with_gate-signal list gate = refl

pub with_gate-inputs : (list : GateList) (gate : Gate) → (with_gate list gate).gates.inputs ≡ list.inputs
unfolding with_gate
with_gate-inputs list gate = refl

-- the list with the gate is of gates again, and the signal has the gate's value
pub record Appends (list : GateList) (gate : Gate) (r : Reached) : Type 0 where
  pub extends : Extends list r.gates
  pub gates : IsGateList r.gates
  pub in_range : r.signal < signal_count r.gates
  pub above : list.inputs ≤ r.signal
  pub value : (s : ℕ) → value_at r.gates r.signal s ≡ gate_value gate.table (value_at list gate.j s) (value_at list gate.k s)
  pub few : length r.gates.gates ≤ length list.gates + 1

pub with_gate_appends : (list : GateList) (gate : Gate) → IsGateList list → gate.j < gate.k → gate.k < signal_count list → gate.table < 16 → Appends list gate (with_gate list gate)
with_gate_appends list gate ok lower earlier table = elim (cases_Bool (list_any (same_gate gate) list.gates)) [
  | inl there ↦
      let at = found (same_gate gate) list.gates there in
      let same : slice_get list.gates (position_or_len (same_gate gate) list.gates) ≡ Some gate = at.1 ∙ ap Some (same_gates gate at.0 at.2) in
      let within = slice_get_within list.gates (position_or_len (same_gate gate) list.gates) gate same in
      as_reached list (sym (with_gate-there list gate there)) (extends_self list) ok
      (list.inputs + position_or_len (same_gate gate) list.gates) (sym (with_gate-signal list gate))
      (omega (arith, within)) (omega arith)
      (λ s. gate-signal list s (position_or_len (same_gate gate) list.gates) gate ok same) (omega arith)
  | inr new ↦
      as_reached (with_last list gate) (sym (with_gate-new list gate new)) (extends_last list gate) (one_more_gate list.inputs list.gates gate ok lower earlier table)
      (signal_count list) (sym (with_gate-signal list gate ∙ ap (λ n. list.inputs + n) (missing (same_gate gate) list.gates new))) (omega (arith, length-append list.gates (gate ∷ []))) (omega arith)
      (last-value list gate) (omega (arith, length-append list.gates (gate ∷ [])))
]
  where
    as_reached : (after : GateList) → after ≡ (with_gate list gate).gates → Extends list after → IsGateList after →
        (signal : ℕ) → signal ≡ (with_gate list gate).signal → signal < signal_count after → list.inputs ≤ signal →
        ((s : ℕ) → value_at after signal s ≡ gate_value gate.table (value_at list gate.j s)
        (value_at list gate.k s)) → length after.gates ≤ length list.gates + 1 →
        Appends list gate (with_gate list gate)
    as_reached after same extends gates signal is in_range above value few =
        let make : GateList → ℕ → Reached = λ gates signal. record { gates = gates; signal = signal } in
        subst (Appends list gate) (ap (λ g. make g signal) same ∙ ap (make (with_gate list gate).gates) is)
        (record { extends = extends; gates = gates; in_range = in_range; above = above; value = value; few = few })
