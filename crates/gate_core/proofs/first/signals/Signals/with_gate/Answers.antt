use Rattle.std.proofs.Common.{◌≡◌, ◌+◌, ◌<◌, ◌++◌, ◌∷◌, [], length, slice_index, ap₂, ℕ, sym, ap, subst, ◌∙◌, arith}
use Rattle.std.specs.List.{position_or_len}
use Rattle.std.proofs.lemmas.Bool.{not-true, not-false}
use Rattle.std.proofs.lemmas.List.{length-map}
use Rattle.cpog_defs.specs.Codes.{bit}
use Rattle.cpog_defs.specs.Gates.{GateList, signal_count, gate_value}
use Rattle.gate_core.specs.First.{same_gate, Reached, with_gate}
use Rattle.gate_core.specs.Words.{Signals, gate_of, gates_of, AreSignals}
use Rattle.gate_core.proofs.SignalLemmas.{is_kept, keys_with, with_key, signals_kept, signals_with, read_item}
use Rattle.gate_core.proofs.first.signals.Signals.with_gate.Goals as goal
use Rattle.gate_core.proofs.first.signals.Signals.with_gate.Goals.{then-is_new+in_ok-push, else-is_new}

pub invariant_of-self-2 : goal.invariant_of-self-2
invariant_of-self-2 c =
    let inputs = c.self.inside.inputs in
    let keys = c.self.inside.gates.keys in
    let words = c.self.inside.words.items in
    let codes = c.self.inside.codes.items in
    let key : ℕ × ℕ × ℕ = (c.args.gate.j, c.args.gate.k, c.args.gate.table) in
    let earlier : c.args.gate.k < inputs + length keys = omega (arith, c.requires.earlier, ap (λ (v : Signals). signal_count v.list) c.self.view_is, length-map keys gate_of) in
    let room : length words ≡ inputs + length keys = omega (arith, c.self.invariant.one_each, length-map keys gate_of) in
    let first : c.index.result.now ≡ slice_index words c.args.gate.j = read_item words c.args.gate.j c.index.result.now (omega (arith, earlier, room, c.requires.lower)) c.index.ensures in
    let second : c.index-2.result.now ≡ slice_index words c.args.gate.k = read_item words c.args.gate.k c.index-2.result.now (omega (arith, earlier, room)) c.index-2.ensures in
    elim c.if-is_new.branch [
      | then-is_new+in_ok-push w ↦ subst (λ x. AreSignals x.codes.items (gates_of x.inputs x.gates.keys) x.words.items) (sym w.self-inside-is)
          (subst (λ ks. AreSignals codes (gates_of inputs ks) w.push.new.self.items) (sym c.in_ok-place.ensures.keys)
          (subst (λ ws. AreSignals codes (gates_of inputs (keys_with inputs keys key)) ws) (sym (w.in_ok-push.ensures.items ∙ ap (λ ws. ws ++ c.gate_word-word.result ∷ []) c.reserve.ensures.items))
          (signals_with inputs keys key codes words c.gate_word-word.result c.self.invariant c.requires.lower earlier c.requires.table
          (λ s l. c.gate_word-word.ensures s (omega (arith, l, c.self.invariant.few_codes))
          ∙ ap (λ x. gate_value c.args.gate.table (bit x s) (bit c.index-2.result.now s)) first
          ∙ ap (λ x. gate_value c.args.gate.table (bit (slice_index words c.args.gate.j) s) (bit x s)) second)
          (not-true (is_kept inputs keys key) (sym c.in_ok-place.ensures.added ∙ w.if-is_new.true)))))
      | else-is_new w ↦ subst (λ x. AreSignals x.codes.items (gates_of x.inputs x.gates.keys) x.words.items) (sym w.self-inside-is)
          (subst (λ ks. AreSignals codes (gates_of inputs ks) c.reserve.new.self.items) (sym c.in_ok-place.ensures.keys)
          (subst (λ ws. AreSignals codes (gates_of inputs (keys_with inputs keys key)) ws) (sym c.reserve.ensures.items)
          (signals_kept inputs keys key codes words c.self.invariant (not-false (is_kept inputs keys key) (sym c.in_ok-place.ensures.added ∙ w.if-is_new.false)))))
    ]

pub returns-clause-gate : goal.returns-clause-gate
returns-clause-gate c =
    let keys = c.self.inside.gates.keys in
    let key : ℕ × ℕ × ℕ = (c.args.gate.j, c.args.gate.k, c.args.gate.table) in
    let view : gates_of c.self.inside.inputs (keys_with c.self.inside.inputs keys key) ≡ gates_of c.if-is_new.self-inside.inputs c.if-is_new.self-inside.gates.keys = elim c.if-is_new.branch [
      | then-is_new+in_ok-push w ↦ sym (ap (λ x. gates_of x.inputs x.gates.keys) w.self-inside-is ∙ ap (gates_of c.self.inside.inputs) c.in_ok-place.ensures.keys)
      | else-is_new w ↦ sym (ap (λ x. gates_of x.inputs x.gates.keys) w.self-inside-is ∙ ap (gates_of c.self.inside.inputs) c.in_ok-place.ensures.keys)
    ] in
    let number : c.from.result ≡ c.self.inside.inputs = elim c.if-is_new.branch [
      | then-is_new+in_ok-push w ↦ c.from.ensures ∙ ap (λ x. x.inputs) w.self-inside-is
      | else-is_new w ↦ c.from.ensures ∙ ap (λ x. x.inputs) w.self-inside-is
    ] in
    let make : GateList → ℕ → Reached = λ gates signal. record { gates = gates; signal = signal } in
    let place : c.self.inside.inputs + position_or_len
    (λ y. same_gate (gate_of key) (gate_of y)) keys ≡ c.from.result + c.in_ok-place.place = ap₂ (λ a b. a + b)
    (sym number) (sym c.in_ok-place.ensures.index) in
    ap (λ (v : Signals). with_gate v.list c.args.gate) (sym c.self.view_is)
    ∙ with_key c.self.inside.inputs keys key
    ∙ ap (λ gates. make gates (c.self.inside.inputs + position_or_len (λ y. same_gate (gate_of key) (gate_of y)) keys)) view
    ∙ ap (make (gates_of c.if-is_new.self-inside.inputs c.if-is_new.self-inside.gates.keys)) place
