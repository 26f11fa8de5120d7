use Rattle.std.proofs.Common.{◌≡◌}
use Rattle.gate_core.proofs.MintermLemmas.{JoinedTo}
use Rattle.gate_core.proofs.first.minterms.joined.Given as goal

abbrev pub invariant-loop-other : goal.invariant-loop-other
invariant-loop-other l = record {
  joined : JoinedTo (record { gates = l.fn.signals.list; signal = l.one }) l.others l.other-index (record { gates = l.signals.list; signal = l.number });
  codes : l.signals.codes ≡ l.fn.signals.codes;
}
