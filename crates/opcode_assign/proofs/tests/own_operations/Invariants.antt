use Rattle.std.proofs.Common.{◌≡◌, length, All}
use Rattle.cpog_defs.specs.Orders.{IsOrderOf}
use Rattle.opcode_assign.proofs.tests.own_operations.Given as goal

abbrev pub invariant-loop-v : goal.invariant-loop-v
invariant-loop-v l = record { len : length l.orders.items ≡ l.v; each : All (IsOrderOf l.count) l.orders.items }
