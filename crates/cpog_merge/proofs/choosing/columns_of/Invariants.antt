use Rattle.std.proofs.Common.{◌≡◌, map, take}
use Rattle.cpog_merge.specs.Columns.{column_at}
use Rattle.cpog_merge.proofs.choosing.columns_of.Given as goal

abbrev pub invariant-loop-p : goal.invariant-loop-p
invariant-loop-p l = l.list.items ≡ map (column_at l.columns) (take l.p-index l.places)
