use Rattle.std.proofs.Common.{◌≡◌, ◌≤◌, ◌∙◌, ap, arith}
use Rattle.cpog_defs.specs.Orders.{Order}
use Rattle.cpog_merge.specs.Columns.{count_of}
use Rattle.cpog_merge.proofs.FitLemmas.{columns_fit}
use Rattle.cpog_merge.proofs.ColumnsLemmas.{are_full, are_columns, first_count}
use Rattle.cpog_merge.proofs.filling.merge.Goals as goal

pub returns-clause-columns : goal.returns-clause-columns
returns-clause-columns c =
    let orders = c.args.orders.now in
    let n = c.count-count.result in
    let is : n ≡ count_of orders = c.count-count.ensures.count ∙ ap (λ (o : Order). o.count) (c.as_order.ensures ∙ c.index-orders-0.is) ∙ first_count orders c.index-orders-0.result c.requires.some in
    rw (c.from_vecs.ensures, c.in_ok-ops.ensures, c.in_ok-arcs.ensures) (are_columns orders n is)

pub returns-clause-fits : goal.returns-clause-fits
returns-clause-fits c = columns_fit c.args.orders.now _ c.requires.alike (returns-clause-columns c)

pub from_vecs-requires : goal.from_vecs-requires
from_vecs-requires c =
    let orders = c.args.orders.now in
    let n = c.count-count.result in
    let few : n ≤ 128 = omega (arith, c.count-count.ensures.count, c.count-count.ensures.few) in
    rw (c.in_ok-ops.ensures, c.in_ok-arcs.ensures) (are_full orders n few c.requires.few)
