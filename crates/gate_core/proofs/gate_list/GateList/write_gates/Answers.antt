use Rattle.std.proofs.Common.{◌≡◌, ◌+◌, ◌<◌, false, [], ◌∷◌, ◌++◌, length, slice_index_or, slice_set, take, refl, sym, ap, subst, ◌∙◌, arith, get_or-take}
use Rattle.std.proofs.lemmas.List.{take_more, take_more_set}
use Rattle.cpog_defs.specs.Gates.{AreGatesFrom}
use Rattle.cpog_defs.specs.declared.types.Gate.{Gate}
use Rattle.gate_core.proofs.GateLemmas.{next_value, with_gates_push, gate_reads}
use Rattle.gate_core.proofs.gate_list.GateList.write_gates.Goals as goal

pub bounds-out-gate : goal.bounds-out-gate
bounds-out-gate c = let h =
    gate_reads _ _ c.loop-g.g (record { j = 0; k = 0; table = 0 })
    (subst (AreGatesFrom c.args.self.now.inputs)
    (sym c.gates-gate-items.ensures.gates) c.gates-gate-items.ensures.earlier) c.loop-g-test.true in
    omega (arith, h.0, h.1, ap length c.gates-gate-items.ensures.gates)

pub bounds-out-gate-in-loop-g : goal.bounds-out-gate-in-loop-g
bounds-out-gate-in-loop-g c = let h =
    gate_reads _ _ c.loop-g.g (record { j = 0; k = 0; table = 0 })
    (subst (AreGatesFrom c.args.self.now.inputs)
    (sym c.gates-gate-items.ensures.gates) c.gates-gate-items.ensures.earlier) c.loop-g-test.true in
    omega (arith, h.1, ap length c.gates-gate-items.ensures.gates)

pub loop-g-preserved : goal.loop-g-preserved
loop-g-preserved c =
    let items = c.gates-gate-items.result.now in
    let g = c.loop-g.g in
    let before = c.from-inputs.result in
    let d : Gate = record { j = 0; k = 0; table = 0 } in
    let gate = slice_index_or items g d in
    let reads = gate_reads _ items g d (subst (AreGatesFrom c.args.self.now.inputs) (sym c.gates-gate-items.ensures.gates) c.gates-gate-items.ensures.earlier) c.loop-g-test.true in
    let room : before + g < length c.loop-g.out = omega (arith, ap length c.gates-gate-items.ensures.gates) in
    let at : before + (g + 1) ≡ before + g + 1 = omega arith in
    let jl : gate.j < before + g = omega (arith, reads.0, reads.1) in
    let kl : gate.k < before + g = omega (arith, reads.1) in
    let value : c.table_value.result ≡ next_value gate (take (before + g) c.loop-g.out) =
    c.table_value.ensures ∙ sym (rw (get_or-take (before + g) c.loop-g.out gate.j false jl, get_or-take (before + g) c.loop-g.out gate.k false kl) refl) in
    ap (λ n. take n (slice_set c.loop-g.out (before + g) c.table_value.result)) at
    ∙ take_more_set c.loop-g.out (before + g) c.table_value.result room
    ∙ ap (λ v. take (before + g) c.loop-g.out ++ v ∷ []) value
    ∙ ap (λ l. l ++ next_value gate l ∷ []) c.loop-g.invariant
    ∙ sym (rw (take_more items g d c.loop-g-test.true) (with_gates_push (take g items) gate (take before c.args.out.now)))
