use Rattle.std.proofs.Common.{◌≡◌, ◌-◌, ◌+◌, length}
use Rattle.line_rows.specs.Reading.{row, many_of}
use Rattle.line_rows.proofs.Loops.{with_front}
use Rattle.module_reader.specs.Gates.{gate_in}
use Rattle.module_reader.specs.Rows.{gates_at}
use Rattle.module_reader.proofs.rows.gates_rows.Given as goal

abbrev pub invariant-loop-index : goal.invariant-loop-index
invariant-loop-index l = (l.gates.inputs ≡ l.inputs) × (length l.gates.gates ≡ l.index) × (with_front l.gates.gates (many_of (λ g. row (gate_in l.inputs g)) (λ g _. g + 1) (l.count - l.index) l.index l.cursor) ≡ gates_at l.inputs l.count l.initial.cursor)
