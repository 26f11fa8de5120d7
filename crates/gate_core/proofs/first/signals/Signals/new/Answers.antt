use Rattle.std.proofs.Common.{◌≡◌, ℕ, List, sym, ap, ap₂, subst, arith}
use Rattle.cpog_defs.specs.Gates.{GateList}
use Rattle.gate_core.specs.Words.{Signals, gates_of, AreSignals}
use Rattle.gate_core.proofs.SignalLemmas.{AreInputsTo, only_inputs, no_keys}
use Rattle.gate_core.proofs.first.signals.Signals.new.Goals as goal

pub invariant_of-result : goal.invariant_of-result
invariant_of-result c =
    let all : c.loop-i.i ≡ c.args.inputs = omega (arith, c.loop-i.auto, c.loop-i-test.false) in
    subst (λ codes. AreSignals codes (gates_of c.args.inputs c.new.result.keys) c.loop-i.words.items) (sym c.in_ok-from_slice.ensures.items)
    (subst (λ keys. AreSignals c.args.codes.now (gates_of c.args.inputs keys) c.loop-i.words.items) (no_keys c.new.result.keys c.new.ensures.len)
    (only_inputs c.args.codes.now c.args.inputs c.loop-i.words.items c.requires.some c.requires.few
    c.requires.few_codes (subst (λ i. AreInputsTo c.args.codes.now i c.loop-i.words.items) all
    c.loop-i.invariant)))

pub returns : goal.returns
returns c =
    let make : List ℕ → GateList → Signals = λ codes list. record { codes = codes; list = list } in
    ap₂ make c.in_ok-from_slice.ensures.items (sym (ap (λ keys. gates_of c.args.inputs keys) (no_keys c.new.result.keys c.new.ensures.len)))
