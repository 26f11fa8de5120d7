use Rattle.std.proofs.Common.{◌≡◌}
use Rattle.cpog_merge.specs.Opens.{arc_belongings}
use Rattle.cpog_merge.proofs.choosing.pairs_belong.Given as goal

abbrev pub invariant-loop-u : goal.invariant-loop-u
invariant-loop-u l = l.list.items ≡ arc_belongings l.columns l.classes l.columns.count l.u
