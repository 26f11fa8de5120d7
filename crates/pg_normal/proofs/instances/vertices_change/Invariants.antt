use Rattle.std.proofs.Common.{take}
use Rattle.std.specs.List.{AllByRecursion}
use Rattle.pg_normal.specs.Forms.{vertex_table}
use Rattle.pg_normal.specs.Changes.{Keeps}
use Rattle.pg_normal.proofs.instances.vertices_change.Given as goal

abbrev pub invariant-vertices : goal.invariant-vertices
invariant-vertices l = AllByRecursion (λ e. Keeps (vertex_table l.form e.0) l.k l.among.0) (take l.i l.form.vertices)
