use Rattle.std.proofs.Common.{◌≤◌, length}
use Rattle.std.specs.List.{All}
use Rattle.gate_core.specs.Columns.{IsOpenColumn}
use Rattle.gate_core.proofs.tests.columns_of.Given as goal

abbrev pub invariant-loop-text : goal.invariant-loop-text
invariant-loop-text l = (All (IsOpenColumn l.n) l.columns.items) × (length l.columns.items ≤ l.text-index)
