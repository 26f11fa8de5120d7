-- What words say of signals and of inputs.
use Rattle.std.proofs.Common.{◌≡◌, ◌≢◌, ℕ, ◌<◌, ◌≤◌, Bool, true, false, not, IsTrue, List, length, take, slice_index, refl, sym, ap, ◌∙◌, subst, inl, inr, arith, get_or-take, length-take}
use Rattle.std.proofs.lemmas.Bool.{cases_lt, both_ways}
use Rattle.std.proofs.lemmas.List.{get_or_past}
use Rattle.cpog_defs.specs.declared.types.Bit3.{Bit3}
use Rattle.cpog_defs.specs.declared.types.Bit3.TheVariants.{Free}
use Rattle.cpog_defs.specs.declared.types.Gate.{Gate}
use Rattle.cpog_defs.specs.declared.types.Ref.{Ref}
use Rattle.cpog_defs.specs.Codes.{bit}
use Rattle.cpog_defs.specs.Entries.{entry_at}
use Rattle.cpog_defs.specs.Gates.{GateList, signal_count}
use Rattle.cpog_base.specs.Column.{is_one, is_zero}
use Rattle.gate_core.specs.First.{code_at, SignalAgrees, NoSignalAgrees, TellsApart, NoPairTells, IsFirstPairOfInputs, IsBySignal}
use Rattle.gate_core.specs.Words.{value_at, AreSignals, AreInputWords, IsAskedBy, IsMetBy, IsFirstMet, AreApart, NoneWith, IsFirstApart}
use Rattle.gate_core.proofs.GateLemmas.{input-signal}
use Rattle.gate_core.proofs.TakeLemmas.{signed, agrees_from, from_agrees, agrees_by, one_agrees, zero_agrees, entry_one, entry_zero}

-- an entry that asks for a bit stands within the column
within : (column : List Bit3) (s : ℕ) → entry_at column s ≢ Free → s < length column
within column s h = elim (cases_lt s (length column)) [ inl l ↦ l | inr l ↦ absurd (h (get_or_past column s Free l)) ]

one_within : (column : List Bit3) (s : ℕ) → IsTrue (is_one (entry_at column s)) → s < length column
one_within column s t = within column s (λ free. both_ways _ (ap is_one free) t)

zero_within : (column : List Bit3) (s : ℕ) → IsTrue (is_zero (entry_at column s)) → s < length column
zero_within column s t = within column s (λ free. both_ways _ (ap is_zero free) t)

signed_true : (negated v : Bool) → v ≡ not negated → signed negated v ≡ true
signed_true true v e = ap not e
signed_true false v e = e

signed_false : (negated v : Bool) → v ≡ negated → signed negated v ≡ false
signed_false true v e = ap not e
signed_false false v e = e

true_signed : (negated v : Bool) → signed negated v ≡ true → v ≡ not negated
true_signed true true e = absurd (both_ways _ refl e)
true_signed true false e = refl
true_signed false v e = e

false_signed : (negated v : Bool) → signed negated v ≡ false → v ≡ negated
false_signed true true e = refl
false_signed true false e = absurd (both_ways _ e refl)
false_signed false v e = e

module _ (codes : List ℕ) (column : List Bit3) (ones zeros : ℕ) (asked : IsAskedBy column ones zeros) (each : length column ≡ length codes) (few : length codes ≤ 64) where
  one_there : (s : ℕ) → IsTrue (bit ones s) → IsTrue (is_one (entry_at column s))
  one_there s t = sym (asked.ones_where s) ∙ t

  zero_there : (s : ℕ) → IsTrue (bit zeros s) → IsTrue (is_zero (entry_at column s))
  zero_there s t = sym (asked.zeros_where s) ∙ t

  -- ---- signals

  module _ (list : GateList) (words : List ℕ) (signals : AreSignals codes list words) where
    met_agrees : (n : ℕ) (negated : Bool) → n < signal_count list → IsMetBy ones zeros negated (slice_index words n) → SignalAgrees list codes column n negated
    met_agrees n negated l h = agrees_from list codes column n negated (λ s m. let v = value_at list n (code_at codes s) in agrees_by (entry_at column s) (signed negated v)
        (λ t. signed_true negated v (sym (signals.values n s l m) ∙ (h s).0 (asked.ones_where s ∙ t)))
        (λ t. signed_false negated v (sym (signals.values n s l m) ∙ (h s).1 (asked.zeros_where s ∙ t))))

    agrees_met : (n : ℕ) (negated : Bool) → n < signal_count list → SignalAgrees list codes column n negated → IsMetBy ones zeros negated (slice_index words n)
    agrees_met n negated l h s = let v = value_at list n (code_at codes s) in (
      λ t. let e = one_there s t in let k : s < length codes = omega (arith, one_within column s e, each) in
          signals.values n s l k ∙ true_signed negated v (one_agrees (entry_at column s) (signed negated v) (from_agrees list codes column n negated h s k) e),
      λ t. let e = zero_there s t in let k : s < length codes = omega (arith, zero_within column s e, each) in
          signals.values n s l k ∙ false_signed negated v (zero_agrees (entry_at column s) (signed negated v) (from_agrees list codes column n negated h s k) e),
    )

    pub by_signal : (ref : Ref) → IsFirstMet ones zeros words ref → IsBySignal codes list column list ref
    by_signal ref h =
        let below : h.number < signal_count list = omega (arith, h.in_range, signals.one_each) in
        record {
          number = h.number;
          negated = h.negated;
          signal = record {
            in_range = below;
            agrees = met_agrees h.number h.negated below h.met;
            first = λ k sign l a. h.first k sign l (agrees_met k sign (omega (arith, l, below)) a);
            upright_first = λ t a. h.upright_first t (agrees_met h.number false below a);
          };
          gates = refl;
          reference = h.is;
        }

    pub none_agrees : ((k : ℕ) (negated : Bool) → k < length words → IsMetBy ones zeros negated (slice_index words k) → ⊥) → NoSignalAgrees list codes column
    none_agrees none k negated l a = none k negated (omega (arith, l, signals.one_each)) (agrees_met k negated l a)

  -- ---- inputs

  module _ (inputs : ℕ) (words : List ℕ) (h : AreInputWords inputs codes words) where
    input_bit : (j s : ℕ) → j < inputs → s < length column → bit (slice_index words j) s ≡ bit (code_at codes s) j
    input_bit j s l m = h.values j s l (omega (arith, m, each))

    apart_tells : (j k : ℕ) → j < inputs → k < inputs → AreApart ones zeros (slice_index words j) (slice_index words k) → TellsApart codes column j k
    apart_tells j k lj lk apart s t one nil same_j same_k =
        let es = ap is_one one in
        let et = ap is_zero nil in
        let ls = one_within column s es in
        let lt = zero_within column t et in
        apart s t (asked.ones_where s ∙ es) (asked.zeros_where t ∙ et) (input_bit j s lj ls ∙ same_j ∙ sym (input_bit j t lj lt)) (input_bit k s lk ls ∙ same_k ∙ sym (input_bit k t lk lt))

    tells_apart : (j k : ℕ) → j < inputs → k < inputs → TellsApart codes column j k → AreApart ones zeros (slice_index words j) (slice_index words k)
    tells_apart j k lj lk tells s t one nil same_j same_k =
        let es = one_there s one in
        let et = zero_there t nil in
        let ls = one_within column s es in
        let lt = zero_within column t et in
        tells s t (entry_one (entry_at column s) es) (entry_zero (entry_at column t) et) (sym (input_bit j s lj ls)
        ∙ same_j ∙ input_bit j t lj lt) (sym (input_bit k s lk ls) ∙ same_k ∙ input_bit k t lk lt)

    pub first_pair_is : (gate : Gate) → IsFirstApart ones zeros words gate → IsFirstPairOfInputs inputs codes column gate
    first_pair_is gate a =
        let w = a.gate_with in
        let lk : gate.k < inputs = omega (arith, w.in_range, h.one_each) in
        let lj : gate.j < inputs = omega (arith, lk, w.lower) in
        record {
          lower = w.lower;
          in_range = lk;
          tells = apart_tells gate.j gate.k lj lk w.apart;
          first = λ j k lower m earlier tells. elim earlier [
            | inl before ↦ a.first j before k lower (omega (arith, m, h.one_each)) (tells_apart j k (omega (arith, lower, m)) m tells)
            | inr same ↦ w.first k (omega (arith, lower, same.0)) same.1
                (subst (λ i. AreApart ones zeros (slice_index words i) (slice_index words k)) same.0
                (tells_apart j k (omega (arith, lower, m)) m tells))
          ];
          few_rows = w.table.few_rows;
          table = λ p q. (
            λ t. let r = (w.table.rows p q).0 t in
                let es = one_there r.0 r.1 in
                let ls = one_within column r.0 es in
                (r.0, entry_one (entry_at column r.0) es, sym (input_bit gate.j r.0 lj ls) ∙ r.2, sym (input_bit gate.k r.0 lk ls) ∙ r.3),
            λ r. let es = ap is_one r.1 in
                let ls = one_within column r.0 es in
                (w.table.rows p q).1 (r.0, asked.ones_where r.0 ∙ es, input_bit gate.j r.0 lj ls ∙ r.2, input_bit gate.k r.0 lk ls ∙ r.3),
          );
        }

    pub no_pair_tells : ((j : ℕ) → NoneWith ones zeros words j) → NoPairTells inputs codes column
    no_pair_tells none j k lower m tells = none j k lower (omega (arith, m, h.one_each)) (tells_apart j k (omega (arith, lower, m)) m tells)

-- the first words of the signals are those of the inputs
pub words_of_inputs : (codes : List ℕ) (list : GateList) (words : List ℕ) → AreSignals codes list words → AreInputWords list.inputs codes (take list.inputs words)
words_of_inputs codes list words h = record {
  one_each = omega (arith, length-take list.inputs words, h.one_each);
  values = λ n s l m. ap (λ w. bit w s) (get_or-take list.inputs words n 0 l) ∙ h.values n s (omega (arith, l)) m ∙ input-signal list (code_at codes s) n l;
}
