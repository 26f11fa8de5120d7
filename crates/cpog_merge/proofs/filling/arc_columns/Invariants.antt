use Rattle.std.proofs.Common.{◌≡◌}
use Rattle.cpog_merge.specs.Filling.{arc_columns_of}
use Rattle.cpog_merge.proofs.filling.arc_columns.Given as goal

abbrev pub invariant-loop-v : goal.invariant-loop-v
invariant-loop-v l = l.columns.items ≡ arc_columns_of l.orders l.count l.v
