use Rattle.std.proofs.Common.{◌≡◌}
use Rattle.cpog_merge.specs.Opens.{open_ops}
use Rattle.cpog_merge.proofs.choosing.open_operations.Given as goal

abbrev pub invariant-loop-v : goal.invariant-loop-v
invariant-loop-v l = l.places.items ≡ open_ops l.columns l.v
