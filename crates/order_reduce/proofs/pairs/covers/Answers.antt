use Rattle.std.proofs.Common.{ap, arith}
use Rattle.cpog_defs.specs.Orders.{Order, IsOrder}
use Rattle.order_reduce.proofs.PairLemmas.{listed_pairs}
use Rattle.order_reduce.proofs.PairWalks.{pairs_walk}
use Rattle.order_reduce.proofs.PairCount.{few_covers}
use Rattle.order_reduce.proofs.pairs.covers.Goals as goal

pub returns-clause-pairs : goal.returns-clause-pairs
returns-clause-pairs c =
    listed_pairs c.args.order.now c.rows-rows.result.now c.loop-u.u c.loop-u.pairs.items
    c.rows-rows.ensures (omega (arith, c.count-count.ensures.count, ap (λ (o : Order). o.count) c.as_order.ensures)) c.loop-u.invariant

pub returns-clause-walks : goal.returns-clause-walks
returns-clause-walks c =
    let o = c.args.order.now in
    let ord : IsOrder o = rw c.as_order.ensures at c.count-count.ensures.order in
    let same = listed_pairs o c.rows-rows.result.now c.loop-u.u c.loop-u.pairs.items
    c.rows-rows.ensures (omega (arith, c.count-count.ensures.count, ap (λ (o : Order). o.count) c.as_order.ensures)) c.loop-u.invariant in
    rw same (pairs_walk o ord)

pub returns-clause-few : goal.returns-clause-few
returns-clause-few c =
    let o = c.args.order.now in
    let ord : IsOrder o = rw c.as_order.ensures at c.count-count.ensures.order in
    let same = listed_pairs o c.rows-rows.result.now c.loop-u.u c.loop-u.pairs.items
    c.rows-rows.ensures (omega (arith, c.count-count.ensures.count, ap (λ (o : Order). o.count) c.as_order.ensures)) c.loop-u.invariant in
    rw same (few_covers o ord)
