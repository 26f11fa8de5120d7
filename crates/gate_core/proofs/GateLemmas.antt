-- Laws of signals.
use Rattle.std.proofs.Common.{◌≡◌, ℕ, zero, suc, ◌+◌, ◌<◌, Bool, false, List, [], ◌∷◌, ◌++◌, length, slice_index_or, slice_get, get_or, Some, refl, sym, ap, ◌∙◌, length-append, inl, inr, arith}
use Rattle.std.proofs.lemmas.Bool.{cases_eq}
use Rattle.std.proofs.lemmas.List.{get_or_append_left, get_or_at}
use Rattle.std.proofs.lemmas.Option.{slice_get_within, get_or_from_slice_get}
use Rattle.cpog_defs.specs.declared.types.Gate.{Gate}
use Rattle.cpog_defs.specs.Codes.{bit, word_bits}
use Rattle.cpog_defs.specs.Gates.{GateList, AreGatesFrom, IsGateList, gate_value, with_gates, signal_count, signal_values}

-- the value of a gate on the signals before it
abbrev pub next_value : Gate → List Bool → Bool
next_value g values = gate_value g.table (slice_index_or values g.j false) (slice_index_or values g.k false)

pub with_gates_push : (gates : List Gate) (g : Gate) (values : List Bool) → with_gates (gates ++ g ∷ []) values ≡ with_gates gates values ++ next_value g (with_gates gates values) ∷ []
with_gates_push [] g values = refl
with_gates_push (x ∷ gates) g values = with_gates_push gates g _

pub with_gates_append : (gates more : List Gate) (values : List Bool) → with_gates (gates ++ more) values ≡ with_gates more (with_gates gates values)
with_gates_append [] more values = refl
with_gates_append (x ∷ gates) more values = with_gates_append gates more _

pub length-with_gates : (gates : List Gate) (values : List Bool) → length (with_gates gates values) ≡ length values + length gates
length-with_gates [] values = omega arith
length-with_gates (g ∷ gates) values = omega (arith, length-with_gates gates (values ++ next_value g values ∷ []), length-append values (next_value g values ∷ []))

pub length-word_bits : (word n : ℕ) → length (word_bits word n) ≡ n
length-word_bits word zero = refl
length-word_bits word (suc n) = omega (arith, length-word_bits word n, length-append (word_bits word n) (bit word n ∷ []))

pub length-signal_values : (list : GateList) (word : ℕ) → length (signal_values list word) ≡ signal_count list
length-signal_values list word = length-with_gates list.gates (word_bits word list.inputs) ∙ rw (length-word_bits word list.inputs) refl

-- later gates change no earlier signal
pub earlier_signal : (gates : List Gate) (values : List Bool) (n : ℕ) → n < length values → slice_index_or (with_gates gates values) n false ≡ slice_index_or values n false
earlier_signal [] values n l = refl
earlier_signal (g ∷ gates) values n l =
    earlier_signal gates _ n (omega (arith, length-append values (next_value g values ∷ []))) ∙ get_or_append_left values (next_value g values ∷ []) false n l

-- an input is the bit of the word
pub get_or-word_bits : (word n i : ℕ) → i < n → slice_index_or (word_bits word n) i false ≡ bit word i
get_or-word_bits word zero i l = absurd (omega arith)
get_or-word_bits word (suc n) i l = elim (cases_eq i n) [
  | inl same ↦ rw same (get_or_at (word_bits word n) (bit word n) [] false n (length-word_bits word n))
  | inr other ↦ get_or_append_left (word_bits word n) (bit word n ∷ []) false i (omega (arith, length-word_bits word n)) ∙ get_or-word_bits word n i (omega arith)
]

pub input-signal : (list : GateList) (word i : ℕ) → i < list.inputs → slice_index_or (signal_values list word) i false ≡ bit word i
input-signal list word i l = earlier_signal list.gates (word_bits word list.inputs) i (omega (arith, length-word_bits word list.inputs)) ∙ get_or-word_bits word list.inputs i l

-- a gate's signal is its table at its two signals
pub gate_at : (gates : List Gate) (values : List Bool) (g : ℕ) (d : Gate) → AreGatesFrom (length values) gates → g < length gates →
    slice_index_or (with_gates gates values) (length values + g) false ≡ next_value (get_or gates g d) (with_gates gates values)
gate_at [] values g d ok l = absurd (omega arith)
gate_at (x ∷ gates) values zero d ok l =
    let n : length (values ++ next_value x values ∷ []) ≡ length values + 1 = length-append values _ in
    earlier_signal gates (values ++ next_value x values ∷ []) (length values + 0) (omega arith)
    ∙ get_or_at values (next_value x values) [] false (length values + 0) (omega arith)
    ∙ sym (rw (
      earlier_signal gates (values ++ next_value x values ∷ []) x.j (omega (arith, ok.0, ok.1)),
      earlier_signal gates (values ++ next_value x values ∷ []) x.k (omega (arith, ok.1)),
      get_or_append_left values (next_value x values ∷ []) false x.j (omega (arith, ok.0, ok.1)),
      get_or_append_left values (next_value x values ∷ []) false x.k ok.1,
    ) refl)
gate_at (x ∷ gates) values (suc g) d ok l =
    let n : length (values ++ next_value x values ∷ []) ≡ length values + 1 = length-append values _ in
    let at : length values + suc g ≡ length (values ++ next_value x values ∷ []) + g = omega (arith, n) in
    rw (at) (gate_at gates (values ++ next_value x values ∷ []) g d (rw n ok.3) (omega arith))

-- a gate of the list reads earlier signals
pub gate_reads : (n : ℕ) (gates : List Gate) (g : ℕ) (d : Gate) → AreGatesFrom n gates → g < length gates → ((get_or gates g d).j < (get_or gates g d).k) × ((get_or gates g d).k < n + g)
gate_reads n [] g d ok l = absurd (omega arith)
gate_reads n (x ∷ gates) zero d ok l = (ok.0, omega (arith, ok.1))
gate_reads n (x ∷ gates) (suc g) d ok l = let h = gate_reads (n + 1) gates g d ok.3 (omega arith) in (h.0, omega (arith, h.1))

pub gate-signal : (list : GateList) (word g : ℕ) (gate : Gate) → IsGateList list → slice_get list.gates g ≡ Some gate →
    slice_index_or (signal_values list word) (list.inputs + g) false ≡ next_value gate (signal_values list word)
gate-signal list word g gate ok there =
    let values = word_bits word list.inputs in
    let n : length values ≡ list.inputs = length-word_bits word list.inputs in
    let at = gate_at list.gates values g gate (rw n ok) (slice_get_within list.gates g gate there) in
    ap (λ k. slice_index_or (signal_values list word) (k + g) false) (sym n) ∙ at ∙ ap (λ x. next_value x (signal_values list word)) (get_or_from_slice_get list.gates g gate gate there)

-- one more gate at the end reads earlier signals too
pub one_more_gate : (n : ℕ) (gates : List Gate) (g : Gate) → AreGatesFrom n gates → g.j < g.k → g.k < n + length gates → g.table < 16 → AreGatesFrom n (gates ++ g ∷ [])
one_more_gate n [] g ok lower earlier table = (lower, omega (arith, earlier), table, tt)
one_more_gate n (x ∷ gates) g ok lower earlier table = (ok.0, ok.1, ok.2, one_more_gate (n + 1) gates g ok.3 lower (omega (arith, earlier)) table)

-- gates with the same signals and table are one
pub gate_by_parts : (g h : Gate) → g.j ≡ h.j → g.k ≡ h.k → g.table ≡ h.table → g ≡ h
gate_by_parts g h a b c = λ i. record { j = a i; k = b i; table = c i }

-- lists with the same inputs and gates are one
pub gate_list_by_parts : (g h : GateList) → g.inputs ≡ h.inputs → g.gates ≡ h.gates → g ≡ h
gate_list_by_parts g h p q = λ i. record { inputs = p i; gates = q i }
