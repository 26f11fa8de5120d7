use Rattle.std.proofs.Common.{◌≡◌, ◌-◌}
use Rattle.report_reader.specs.Columns.{columns_of}
use Rattle.report_reader.specs.Scenarios.{others_at}
use Rattle.report_reader.proofs.scenarios.add_others.Given as goal

abbrev pub invariant-loop-index : goal.invariant-loop-index
invariant-loop-index l = others_at l.bits l.names (columns_of l.read) (63 - l.index) l.cursor ≡ others_at l.bits l.names (columns_of l.initial.read) 63 l.initial.cursor
