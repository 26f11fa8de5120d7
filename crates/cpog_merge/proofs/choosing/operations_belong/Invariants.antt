use Rattle.std.proofs.Common.{◌≡◌}
use Rattle.cpog_merge.specs.Opens.{op_belongings}
use Rattle.cpog_merge.proofs.choosing.operations_belong.Given as goal

abbrev pub invariant-loop-v : goal.invariant-loop-v
invariant-loop-v l = l.list.items ≡ op_belongings l.columns l.classes l.v
