use Rattle.std.proofs.Common.{◌≡◌, ◌-◌, map}
use Rattle.module_reader.specs.Lists.{steps, with_mark, arc_marks_from, arc_marks}
use Rattle.module_reader.proofs.wires.arcs_of.Given as goal

abbrev pub invariant-loop-u : goal.invariant-loop-u
invariant-loop-u l = steps (λ u s. with_mark s.0 (arc_marks_from l.count u s.1)) (l.count - l.u) l.u (map (λ row. row.items) l.rows.items, l.rest) ≡ arc_marks l.count l.text
