use Rattle.std.proofs.Common.{◌≡◌}
use Rattle.gate_core.specs.First.{minterm}
use Rattle.gate_core.proofs.first.minterms.minterm.Given as goal

abbrev pub invariant-loop-i : goal.invariant-loop-i
invariant-loop-i l = record {
  minterm : minterm l.fn.signals.list l.code l.i ≡ record { gates = l.signals.list; signal = l.number };
  codes : l.signals.codes ≡ l.fn.signals.codes;
}
