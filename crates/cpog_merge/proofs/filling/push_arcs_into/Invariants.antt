use Rattle.std.proofs.Common.{◌≡◌, ◌++◌}
use Rattle.cpog_merge.specs.Filling.{arc_columns_into}
use Rattle.cpog_merge.proofs.filling.push_arcs_into.Given as goal

abbrev pub invariant-loop-u : goal.invariant-loop-u
invariant-loop-u l = l.columns.items ≡ l.initial.columns.items ++ arc_columns_into l.orders l.u l.v.0
