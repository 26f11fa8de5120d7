use Rattle.gate_core.proofs.SignalLemmas.{AreInputsTo}
use Rattle.gate_core.proofs.first.signals.Signals.new.Given as goal

abbrev pub invariant-loop-i : goal.invariant-loop-i
invariant-loop-i l = AreInputsTo l.codes l.i l.words.items
