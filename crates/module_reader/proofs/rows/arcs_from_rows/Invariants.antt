use Rattle.std.proofs.Common.{◌≡◌, ◌-◌, ◌+◌, false, length, slice_index_or}
use Rattle.line_rows.specs.Reading.{many_of}
use Rattle.line_rows.proofs.Loops.{with_front}
use Rattle.module_reader.specs.Rows.{arc_at}
use Rattle.module_reader.proofs.rows.arcs_from_rows.Given as goal

abbrev pub invariant-loop-v : goal.invariant-loop-v
invariant-loop-v l = with_front l.wires.items (many_of (λ v. arc_at l.inputs l.gates (slice_index_or l.declared v false) l.u v) (λ v _. v + 1) (length l.declared - l.v) l.v l.cursor) ≡ many_of (λ v. arc_at l.inputs l.gates (slice_index_or l.declared v false) l.u v) (λ v _. v + 1) (length l.declared) 0 l.initial.cursor
