use Rattle.std.proofs.Common.{◌∙◌, sym}
use Rattle.std.proofs.lemmas.List.{map-id}
use Rattle.std.proofs.lemmas.Iterator.Adapters.{YieldsList-from_vec}
use Rattle.std.proofs.lemmas.Iterator.Consumers.{YieldsList-end}
use Rattle.order_reduce.proofs.covered.covered_orders.Goals as goal

pub returns : goal.returns
returns c =
    let made = c.into_iter-order-iterator.ensures.into_iter_gives in
    let all = YieldsList-from_vec {s = c.into_iter-order-iterator.result} c.args.orders.items made.0 (made.1 ∙ c.args.orders.ok.0) in
    let t = YieldsList-end all c.loop-order.yielded c.loop-order.order-iterator c.loop-order.yielded_by c.next.result c.next.new.self c.in-None.is c.next.ensures.steps in
    c.loop-order.invariant ∙ sym (map-id c.loop-order.yielded) ∙ t.0
