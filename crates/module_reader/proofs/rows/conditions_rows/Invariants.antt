use Rattle.std.proofs.Common.{◌≡◌, ◌-◌, ◌+◌, length}
use Rattle.netlist_verilog.specs.Wires.{name_of}
use Rattle.line_rows.specs.Reading.{row, many_of}
use Rattle.line_rows.proofs.Loops.{with_front}
use Rattle.module_reader.specs.Reading.{condition_in}
use Rattle.module_reader.specs.Rows.{conditions_at}
use Rattle.module_reader.proofs.rows.conditions_rows.Given as goal

abbrev pub invariant-loop-index : goal.invariant-loop-index
invariant-loop-index l = with_front l.conditions.items (many_of (λ v. row (condition_in l.inputs l.gates (name_of l.names v))) (λ v _. v + 1) (length l.names - l.index) l.index l.cursor) ≡ conditions_at l.inputs l.gates l.names l.initial.cursor
