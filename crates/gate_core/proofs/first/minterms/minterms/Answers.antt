use Rattle.std.proofs.Common.{◌+◌, ◌∙◌, refl, sym, subst, arith}
use Rattle.gate_core.proofs.MintermLemmas.{MintermsTo, minterms_begin, minterms_next, minterms_end}
use Rattle.gate_core.proofs.first.minterms.minterms.Goals as goal

pub loop-code-init : goal.loop-code-init
loop-code-init c = record {
  put =
      subst (MintermsTo c.args.signals.now.list c.args.codes.now 0 c.args.signals.now.list) (sym c.in_ok-numbers.ensures.items)
      (minterms_begin c.args.signals.now.list c.requires.gates c.args.codes.now);
  codes = refl;
}

pub minterm-requires-clause-room : goal.minterm-requires-clause-room
minterm-requires-clause-room c = omega (arith, c.loop-code.invariant.put.few, c.requires.few, c.requires.room)

pub loop-code-preserved : goal.loop-code-preserved
loop-code-preserved c = record {
  put =
      subst (MintermsTo c.args.signals.now.list c.args.codes.now (c.loop-code.code-index + 1) c.minterm.new.signals.list) (sym c.in_ok-push.ensures.items)
      (minterms_next c.args.signals.now.list c.args.codes.now c.loop-code.code-index c.loop-code.signals.list
      c.loop-code.numbers.items c.loop-code.invariant.put c.loop-code-test.true c.requires.inputs
      c.requires.few_inputs
      (record { gates = c.minterm.new.signals.list; signal = c.in_ok-minterm.field-0 }) c.in_ok-minterm.ensures.minterm);
  codes = c.in_ok-minterm.ensures.codes ∙ c.loop-code.invariant.codes;
}

pub returns-clause-minterms : goal.returns-clause-minterms
returns-clause-minterms c =
    minterms_end c.args.signals.now.list c.args.codes.now c.loop-code.code-index c.loop-code.signals.list
    c.loop-code.numbers.items c.loop-code.invariant.put c.loop-code-test.false
