use Rattle.std.proofs.Common.{◌≡◌, ◌-◌, ◌+◌, length}
use Rattle.netlist_verilog.specs.Wires.{name_of}
use Rattle.line_rows.specs.Reading.{row, many_of}
use Rattle.line_rows.proofs.Loops.{with_front}
use Rattle.report_reader.specs.Gates.{op_in}
use Rattle.report_reader.specs.Gates.{ops_at}
use Rattle.report_reader.proofs.gates.ops_of.Given as goal

abbrev pub invariant-loop-index : goal.invariant-loop-index
invariant-loop-index l = with_front l.conditions.items (many_of (λ v. row (op_in l.inputs l.gates (name_of l.names v))) (λ v _. v + 1) (length l.names - l.index) l.index l.cursor) ≡ ops_at l.inputs l.gates l.names l.initial.cursor
