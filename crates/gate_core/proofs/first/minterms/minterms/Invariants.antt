use Rattle.std.proofs.Common.{◌≡◌}
use Rattle.gate_core.proofs.MintermLemmas.{MintermsTo}
use Rattle.gate_core.proofs.first.minterms.minterms.Given as goal

abbrev pub invariant-loop-code : goal.invariant-loop-code
invariant-loop-code l = record {
  put : MintermsTo l.fn.signals.list l.codes l.code-index l.signals.list l.numbers.items;
  codes : l.signals.codes ≡ l.fn.signals.codes;
}
