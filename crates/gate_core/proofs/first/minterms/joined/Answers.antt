use Rattle.std.proofs.Common.{◌≡◌, ℕ, min, max, slice_index, refl, sym, ap₂, ◌∙◌, arith}
use Rattle.cpog_defs.specs.declared.types.Gate.{Gate}
use Rattle.gate_core.specs.First.{with_gate}
use Rattle.gate_core.proofs.MintermLemmas.{joined_begin, can_join_next, joined_next, joined_end}
use Rattle.gate_core.proofs.first.minterms.joined.Goals as goal
use Rattle.gate_core.proofs.first.minterms.joined.Goals.{In_ok-number}

pub loop-other-init : goal.loop-other-init
loop-other-init c = record {
  joined = joined_begin (record { gates = c.args.signals.now.list; signal = c.args.one }) c.args.others.now c.requires.joinable;
  codes = refl;
}

pub with_gate-requires-clause-lower : goal.with_gate-requires-clause-lower
with_gate-requires-clause-lower c =
    let h =
    can_join_next (record { gates = c.args.signals.now.list; signal = c.args.one }) c.args.others.now
    c.loop-other.other-index (record { gates = c.loop-other.signals.list; signal = c.loop-other.number })
    c.loop-other.invariant.joined c.loop-other-test.true in
    omega (arith, h.0, c.min.ensures, c.max.ensures)

pub with_gate-requires-clause-earlier : goal.with_gate-requires-clause-earlier
with_gate-requires-clause-earlier c =
    let h =
    can_join_next (record { gates = c.args.signals.now.list; signal = c.args.one }) c.args.others.now
    c.loop-other.other-index (record { gates = c.loop-other.signals.list; signal = c.loop-other.number })
    c.loop-other.invariant.joined c.loop-other-test.true in
    omega (arith, h.1, h.2, c.max.ensures)

pub with_gate-requires-clause-room : goal.with_gate-requires-clause-room
with_gate-requires-clause-room c = omega (arith, c.loop-other.invariant.joined.few, c.loop-other.invariant.joined.inputs, c.requires.few, c.requires.room)

least : (c : In_ok-number) → c.min.result ≡ min c.loop-other.number (slice_index c.args.others.now c.loop-other.other-index)
least c = omega (arith, c.min.ensures)

greatest : (c : In_ok-number) → c.max.result ≡ max c.loop-other.number (slice_index c.args.others.now c.loop-other.other-index)
greatest c = omega (arith, c.max.ensures)

pub loop-other-preserved : goal.loop-other-preserved
loop-other-preserved c =
    let gate : ℕ → ℕ → Gate = λ j k. record { j = j; k = k; table = 14 } in record {
      joined =
          joined_next (record { gates = c.args.signals.now.list; signal = c.args.one }) c.args.others.now
          c.loop-other.other-index (record { gates = c.loop-other.signals.list; signal = c.loop-other.number })
          c.loop-other.invariant.joined c.loop-other-test.true
          (record { gates = c.with_gate.new.self.list; signal = c.in_ok-number.number })
          (ap₂ (λ j k. with_gate c.loop-other.signals.list (gate j k)) (sym (least c)) (sym (greatest c)) ∙ c.in_ok-number.ensures.gate);
      codes = c.in_ok-number.ensures.codes ∙ c.loop-other.invariant.codes;
    }

pub returns-clause-joined : goal.returns-clause-joined
returns-clause-joined c =
    joined_end (record { gates = c.args.signals.now.list; signal = c.args.one }) c.args.others.now
    c.loop-other.other-index (record { gates = c.loop-other.signals.list; signal = c.loop-other.number })
    c.loop-other.invariant.joined c.loop-other-test.false
