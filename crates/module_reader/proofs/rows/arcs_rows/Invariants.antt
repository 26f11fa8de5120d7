use Rattle.std.proofs.Common.{◌≡◌, ◌-◌, ◌+◌, length, map}
use Rattle.line_rows.specs.Reading.{many_of}
use Rattle.line_rows.proofs.Loops.{with_front}
use Rattle.module_reader.specs.Rows.{arcs_from_at, arcs_at}
use Rattle.module_reader.specs.Modules.{is_declared}
use Rattle.module_reader.proofs.rows.arcs_rows.Given as goal

abbrev pub invariant-loop-u : goal.invariant-loop-u
invariant-loop-u l = with_front (map (λ row. row.items) l.rows.items) (many_of (λ u. arcs_from_at l.inputs l.gates (is_declared (map (λ row. row.items) l.arcs)) (length l.arcs) u) (λ u _. u + 1) (length l.arcs - l.u) l.u l.cursor) ≡ arcs_at l.inputs l.gates (is_declared (map (λ row. row.items) l.arcs)) (length l.arcs) l.initial.cursor
