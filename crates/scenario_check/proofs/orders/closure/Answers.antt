use Rattle.std.proofs.Common.{◌≡◌, ◌∙◌, length, refl}
use Rattle.scenario_check.specs.Rows.{AreRowsOf}
use Rattle.scenario_check.proofs.RowLemmas.{ends-from, order_from}
use Rattle.scenario_check.proofs.orders.closure.Goals as goal

pub walks-requires-clause-ends : goal.walks-requires-clause-ends
walks-requires-clause-ends c =
    ends-from c.args.scenario.now c.count.ensures.scenario c.arcs.result.now c.arcs.ensures c.count.result c.count.ensures.count

pub from_sets-requires-clause-order : goal.from_sets-requires-clause-order
from_sets-requires-clause-order c =
    let r : AreRowsOf c.args.scenario.now.arcs c.in_ok-rows.rows.items = rw c.arcs.ensures at c.in_ok-rows.ensures.walks in
    let size : length c.in_ok-rows.rows.items ≡ c.args.scenario.now.count = c.in_ok-rows.ensures.length ∙ c.count.ensures.count in
    rw c.ops.ensures (order_from c.args.scenario.now c.in_ok-rows.rows.items c.count.ensures.scenario size r (rw c.deref.ensures.value at c.in-None.ensures))

pub returns-in-Some-clause-err : goal.returns-in-Some-clause-err
returns-in-Some-clause-err c =
    let r : AreRowsOf c.args.scenario.now.arcs c.in_ok-rows.rows.items = rw c.arcs.ensures at c.in_ok-rows.ensures.walks in
    let v = c.in-Some.v.0 in
    let least = rw c.deref.ensures.value at c.in-Some.ensures in
    record { is_cyclic = r.there v v least.0; least = λ w l h. least.1 w l (r.back w w h) }

pub returns-in-None-clause-order : goal.returns-in-None-clause-order
returns-in-None-clause-order c =
    let r : AreRowsOf c.args.scenario.now.arcs c.in_ok-rows.rows.items = rw c.arcs.ensures at c.in_ok-rows.ensures.walks in
    let size : length c.in_ok-rows.rows.items ≡ c.args.scenario.now.count = c.in_ok-rows.ensures.length ∙ c.count.ensures.count in
    rw (c.from_sets.ensures, c.ops.ensures) (record {
      order = order_from c.args.scenario.now c.in_ok-rows.rows.items c.count.ensures.scenario size r (rw c.deref.ensures.value at c.in-None.ensures);
      count = size;
      ops = refl;
      before = λ u v. (r.there u v, r.back u v);
    })
