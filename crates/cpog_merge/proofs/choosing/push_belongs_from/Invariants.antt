use Rattle.std.proofs.Common.{◌≡◌, ◌++◌}
use Rattle.cpog_merge.specs.Opens.{arc_belongings_from}
use Rattle.cpog_merge.proofs.choosing.push_belongs_from.Given as goal

abbrev pub invariant-loop-v : goal.invariant-loop-v
invariant-loop-v l = l.list.items ≡ l.initial.list.items ++ arc_belongings_from l.columns l.classes l.v l.u.0
