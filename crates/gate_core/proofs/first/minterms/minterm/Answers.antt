use Rattle.std.proofs.Common.{◌+◌, ◌≤◌, true, ap, ap₂, ◌∙◌, arith}
use Rattle.cpog_defs.specs.Codes.{bit}
use Rattle.gate_core.specs.First.{only_at}
use Rattle.gate_core.proofs.MintermLemmas.{IsMinterm, minterm_state, first_step, next_step}
use Rattle.gate_core.proofs.first.minterms.minterm.Goals as goal
use Rattle.gate_core.proofs.first.minterms.minterm.Goals.{After-only_at-in-loop-i}

at : (c : After-only_at-in-loop-i) → IsMinterm c.args.signals.now.list c.args.code c.loop-i.i (record { gates = c.loop-i.signals.list; signal = c.loop-i.number })
at c =
    let room : c.loop-i.i + 2 ≤ c.args.signals.now.list.inputs = omega (arith, c.inputs-further.ensures.inputs, c.loop-i-test.true) in
    minterm_state c.args.signals.now.list c.inputs-further.ensures.gates c.args.code c.loop-i.i room (record { gates = c.loop-i.signals.list; signal = c.loop-i.number }) c.loop-i.invariant.minterm

pub loop-i-init : goal.loop-i-init
loop-i-init c = record {
  minterm =
      first_step c.args.signals.now.list c.args.code c.only_at.result (c.only_at.ensures
      ∙ ap₂ only_at (c.has_bit.ensures ∙ ap (λ w. bit w 0) c.from-word.ensures) (c.has_bit-2.ensures
      ∙ ap (λ w. bit w 1) c.from-word.ensures))
      (record { gates = c.with_gate.new.self.list; signal = c.in_ok-number.number }) c.in_ok-number.ensures.gate;
  codes = c.in_ok-number.ensures.codes;
}

pub with_gate-requires-in-loop-i-clause-lower : goal.with_gate-requires-in-loop-i-clause-lower
with_gate-requires-in-loop-i-clause-lower c = omega (arith, (at c).above, c.from.ensures, c.loop-i-test.true, c.inputs-further.ensures.inputs)

pub with_gate-requires-in-loop-i-clause-earlier : goal.with_gate-requires-in-loop-i-clause-earlier
with_gate-requires-in-loop-i-clause-earlier c = (at c).in_range

pub with_gate-requires-in-loop-i-clause-room : goal.with_gate-requires-in-loop-i-clause-room
with_gate-requires-in-loop-i-clause-room c = omega (arith, (at c).few, (at c).extends.inputs, c.requires.room, c.loop-i-test.true, c.inputs-further.ensures.inputs, c.inputs-further.ensures.few)

pub loop-i-preserved : goal.loop-i-preserved
loop-i-preserved c = record {
  minterm =
      next_step c.args.signals.now.list c.args.code c.loop-i.i c.loop-i.signals.list c.loop-i.number c.loop-i.invariant.minterm (c.from.result + 2) c.only_at-in-loop-i.result
      (ap (λ n. n + 2) c.from.ensures) (c.only_at-in-loop-i.ensures
      ∙ ap (λ b. only_at b true) (c.has_bit-in-loop-i.ensures
      ∙ ap (λ w. bit w (c.loop-i.i + 2)) c.from-word.ensures))
      (record { gates = c.with_gate-in-loop-i.new.self.list; signal = c.in_ok-number-2.number })
      c.in_ok-number-2.ensures.gate;
  codes = c.in_ok-number-2.ensures.codes ∙ c.loop-i.invariant.codes;
}
