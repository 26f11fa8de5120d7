use Rattle.std.proofs.Common.{◌≡◌, take}
use Rattle.gate_core.specs.First.{TakesAll}
use Rattle.gate_core.proofs.first.take_all.Given as goal

abbrev pub invariant-loop-column : goal.invariant-loop-column
invariant-loop-column l = record {
  taken : TakesAll l.fn.signals.codes l.fn.signals.list (take l.column-index l.columns) l.signals.list l.refs.items;
  codes : l.signals.codes ≡ l.fn.signals.codes;
}
