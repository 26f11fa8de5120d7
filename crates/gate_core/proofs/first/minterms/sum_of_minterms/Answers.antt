use Rattle.std.proofs.Common.{◌≡◌, ◌-◌, ℕ, length, drop, IfOk, sym, subst, arith, length-drop}
use Rattle.std.proofs.lemmas.List.{length-take}
use Rattle.cpog_defs.specs.Gates.{GateList}
use Rattle.gate_core.specs.First.{Reached}
use Rattle.gate_core.proofs.MintermLemmas.{sum_to, sum_read}
use Rattle.gate_core.proofs.first.minterms.sum_of_minterms.Goals as goal

pub index-requires : goal.index-requires
index-requires c =
    let h =
    sum_to c.args.signals.now.list c.requires.gates c.requires.inputs c.requires.few_inputs c.args.codes.now
    c.requires.some c.requires.differ c.minterms.new.signals.list c.in_ok-numbers.numbers.items
    c.in_ok-numbers.ensures.minterms in
    omega (arith, h.long, c.requires.some)

pub slice_bounds-joined-count : goal.slice_bounds-joined-count
slice_bounds-joined-count c =
    let h =
    sum_read c.args.signals.now.list c.requires.gates c.requires.inputs c.requires.few_inputs c.args.codes.now
    c.requires.some c.requires.differ c.minterms.new.signals.list c.in_ok-numbers.numbers.items
    c.in_ok-numbers.ensures.minterms c.index.result.now c.deref.result.now c.index.ensures c.deref.ensures.value in
    omega (arith, h.long, c.requires.some)

pub slice_bounds-joined-start : goal.slice_bounds-joined-start
slice_bounds-joined-start c =
    let h =
    sum_read c.args.signals.now.list c.requires.gates c.requires.inputs c.requires.few_inputs c.args.codes.now
    c.requires.some c.requires.differ c.minterms.new.signals.list c.in_ok-numbers.numbers.items
    c.in_ok-numbers.ensures.minterms c.index.result.now c.deref.result.now c.index.ensures c.deref.ensures.value in
    omega (arith, h.long, c.requires.some)

pub joined-requires-clause-joinable : goal.joined-requires-clause-joinable
joined-requires-clause-joinable c =
    (sum_read c.args.signals.now.list c.requires.gates c.requires.inputs c.requires.few_inputs c.args.codes.now
    c.requires.some c.requires.differ c.minterms.new.signals.list c.in_ok-numbers.numbers.items
    c.in_ok-numbers.ensures.minterms c.index.result.now c.deref.result.now c.index.ensures c.deref.ensures.value).rest

pub joined-requires-clause-few : goal.joined-requires-clause-few
joined-requires-clause-few c =
    let h =
    sum_read c.args.signals.now.list c.requires.gates c.requires.inputs c.requires.few_inputs c.args.codes.now
    c.requires.some c.requires.differ c.minterms.new.signals.list c.in_ok-numbers.numbers.items
    c.in_ok-numbers.ensures.minterms c.index.result.now c.deref.result.now c.index.ensures c.deref.ensures.value in
    omega (arith, h.long, c.requires.few, length-take (length c.deref.result.now - 1) (drop 1 c.deref.result.now), length-drop 1 c.deref.result.now)

pub joined-requires-clause-few_inputs : goal.joined-requires-clause-few_inputs
joined-requires-clause-few_inputs c =
    let h =
    sum_read c.args.signals.now.list c.requires.gates c.requires.inputs c.requires.few_inputs c.args.codes.now
    c.requires.some c.requires.differ c.minterms.new.signals.list c.in_ok-numbers.numbers.items
    c.in_ok-numbers.ensures.minterms c.index.result.now c.deref.result.now c.index.ensures c.deref.ensures.value in
    omega (arith, h.inputs, c.requires.few_inputs)

pub joined-requires-clause-room : goal.joined-requires-clause-room
joined-requires-clause-room c =
    let h =
    sum_read c.args.signals.now.list c.requires.gates c.requires.inputs c.requires.few_inputs c.args.codes.now
    c.requires.some c.requires.differ c.minterms.new.signals.list c.in_ok-numbers.numbers.items
    c.in_ok-numbers.ensures.minterms c.index.result.now c.deref.result.now c.index.ensures c.deref.ensures.value in
    omega (arith, h.few, c.requires.few, c.requires.room)

pub returns-clause-sum : goal.returns-clause-sum
returns-clause-sum c =
    let make : GateList → ℕ → Reached = λ gates signal. record { gates = gates; signal = signal } in
    let h =
    sum_read c.args.signals.now.list c.requires.gates c.requires.inputs c.requires.few_inputs c.args.codes.now
    c.requires.some c.requires.differ c.minterms.new.signals.list c.in_ok-numbers.numbers.items
    c.in_ok-numbers.ensures.minterms c.index.result.now c.deref.result.now c.index.ensures c.deref.ensures.value in
    subst (λ x. IfOk c.joined.result (λ number. x ≡ make c.joined.new.signals.list number)) (sym h.same) c.joined.ensures.joined
