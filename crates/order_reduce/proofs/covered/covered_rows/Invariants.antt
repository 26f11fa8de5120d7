use Rattle.std.proofs.Common.{◌≡◌, ◌<◌, ℕ, length}
use Rattle.cpog_defs.specs.Orders.{is_covered}
use Rattle.cpog_base.specs.Rows.{row_has}
use Rattle.order_reduce.proofs.covered.covered_rows.Given as goal

abbrev pub invariant-loop-v : goal.invariant-loop-v
invariant-loop-v l = record {
  size : length l.rows.items ≡ l.v;
  covered : (u v : ℕ) → v < l.v → row_has l.rows.items u v ≡ is_covered l.order u v;
}
