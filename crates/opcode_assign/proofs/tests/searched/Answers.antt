use Rattle.std.proofs.Common.{◌≡◌, ◌≤◌, length, All, sym, ap, subst, arith}
use Rattle.cpog_defs.specs.Orders.{IsOrderOf}
use Rattle.opcode_assign.proofs.TogetherLemmas.{count_is}
use Rattle.opcode_assign.proofs.tests.searched.Goals as goal

pub assign-requires-clause-few_ops : goal.assign-requires-clause-few_ops
assign-requires-clause-few_ops c =
    let same : c.deref.result.now ≡ c.in-Ok.orders.items = cc in
    let some : 1 ≤ length c.deref.result.now = omega (arith, ap length same, c.in-Ok.ensures.one_each, c.requires.some) in
    omega (arith, count_is c.args.count c.deref.result.now some (subst (All (IsOrderOf c.args.count)) (sym same) c.in-Ok.ensures.alike), c.requires.few)
