use Rattle.std.proofs.Common.{◌≡◌, ◌-◌, ◌+◌, length}
use Rattle.line_rows.specs.Reading.{row, many_of}
use Rattle.line_rows.proofs.Loops.{with_front}
use Rattle.report_reader.specs.Gates.{gate_in, gates_at}
use Rattle.report_reader.proofs.gates.gates_of.Given as goal

abbrev pub invariant-loop-index : goal.invariant-loop-index
invariant-loop-index l =
    (with_front l.gates.gates (many_of (λ g. row (gate_in l.inputs g)) (λ g _. g + 1) (l.count - l.index) l.index l.cursor) ≡ gates_at l.inputs l.count l.initial.cursor)
    × (l.gates.inputs ≡ l.inputs) × (length l.gates.gates ≡ l.index)
