use Rattle.std.proofs.Common.{◌≡◌}
use Rattle.cpog_merge.specs.Filling.{op_columns_of}
use Rattle.cpog_merge.proofs.filling.op_columns.Given as goal

abbrev pub invariant-loop-v : goal.invariant-loop-v
invariant-loop-v l = l.columns.items ≡ op_columns_of l.orders l.v
