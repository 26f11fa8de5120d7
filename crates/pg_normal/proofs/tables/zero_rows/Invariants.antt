use Rattle.std.proofs.Common.{◌≡◌, replicate}
use Rattle.pg_normal.proofs.tables.zero_rows.Given as goal

abbrev pub invariant-rows : goal.invariant-rows
invariant-rows l = l.rows.items ≡ replicate l._v (replicate l.count 0)
