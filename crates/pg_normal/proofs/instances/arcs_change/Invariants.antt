use Rattle.std.proofs.Common.{take}
use Rattle.std.specs.List.{AllByRecursion}
use Rattle.pg_normal.specs.Forms.{arc_table}
use Rattle.pg_normal.specs.Changes.{Keeps}
use Rattle.pg_normal.proofs.instances.arcs_change.Given as goal

abbrev pub invariant-arcs : goal.invariant-arcs
invariant-arcs l = AllByRecursion (λ e. Keeps (arc_table l.form e.0.0 e.0.1) l.k l.among.0) (take l.i l.form.arcs)
