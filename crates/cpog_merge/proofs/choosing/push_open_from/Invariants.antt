use Rattle.std.proofs.Common.{◌≡◌, ◌++◌}
use Rattle.cpog_merge.specs.Opens.{open_arcs_from}
use Rattle.cpog_merge.proofs.choosing.push_open_from.Given as goal

abbrev pub invariant-loop-v : goal.invariant-loop-v
invariant-loop-v l = l.places.items ≡ l.initial.places.items ++ open_arcs_from l.columns l.v l.u.0
