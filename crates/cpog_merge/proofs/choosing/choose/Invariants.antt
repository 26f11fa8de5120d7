use Rattle.std.proofs.Common.{◌≡◌}
use Rattle.cpog_merge.specs.Opens.{chosen}
use Rattle.cpog_merge.proofs.choosing.choose.Given as goal

abbrev pub invariant-loop-i : goal.invariant-loop-i
invariant-loop-i l = l.list.items ≡ chosen l.columns l.places l.i
