use Rattle.std.proofs.Common.{◌≡◌, length, All}
use Rattle.cpog_defs.specs.Orders.{IsOrderOf}
use Rattle.cpog_merge.proofs.tests.four_classes.Given as goal

abbrev pub invariant-loop-v : goal.invariant-loop-v
invariant-loop-v l = record { len : length l.orders.items ≡ l.v; each : All (IsOrderOf 4) l.orders.items }
