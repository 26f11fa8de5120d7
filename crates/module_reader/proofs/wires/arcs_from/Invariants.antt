use Rattle.std.proofs.Common.{◌≡◌, ◌-◌}
use Rattle.module_reader.specs.Lists.{steps, with_mark, arc_mark, arc_marks_from}
use Rattle.module_reader.proofs.wires.arcs_from.Given as goal

abbrev pub invariant-loop-v : goal.invariant-loop-v
invariant-loop-v l = steps (λ v s. with_mark s.0 (arc_mark l.u v s.1)) (l.count - l.v) l.v (l.marks.items, l.rest) ≡ arc_marks_from l.count l.u l.text
