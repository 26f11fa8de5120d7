use Rattle.std.proofs.Common.{◌≡◌, ◌++◌}
use Rattle.cpog_defs.specs.Orders.{each_below}
use Rattle.cpog_merge.specs.Opens.{open_ops, open_arcs_from}
use Rattle.cpog_merge.proofs.choosing.open_places.Given as goal

abbrev pub invariant-loop-u : goal.invariant-loop-u
invariant-loop-u l = l.places.items ≡ open_ops l.columns l.columns.count ++ each_below (open_arcs_from l.columns l.columns.count) l.u
