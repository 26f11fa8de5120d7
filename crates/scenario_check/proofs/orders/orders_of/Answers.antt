use Rattle.std.proofs.Common.{◌≡◌, ◌+◌, ◌∷◌, [], ◌++◌, take, sym, ap, ◌∙◌}
use Rattle.std.proofs.lemmas.List.{take_more}
use Rattle.scenario_check.proofs.CycleLemmas.{orders_push, first_cyclic, named_below}
use Rattle.scenario_check.proofs.orders.orders_of.Goals as goal

pub loop-s-preserved : goal.loop-s-preserved
loop-s-preserved c =
    let scenarios = c.args.scenarios.now in
    let x = c.index-scenarios-s.result in
    let more : take (c.loop-s.s + 1) scenarios ≡ take c.loop-s.s scenarios ++ x ∷ [] =
    take_more scenarios c.loop-s.s x c.loop-s-test.true ∙ ap (λ y. take c.loop-s.s scenarios ++ y ∷ []) (sym c.index-scenarios-s.is) in
    rw (c.in_ok-push-in-Ok.ensures.items, more)
    (orders_push (take c.loop-s.s scenarios) c.loop-s.orders.items x c.in-Ok.order c.loop-s.invariant c.in-Ok.ensures.order)

pub returns-in-Err-Cyclic-clause-err : goal.returns-in-Err-Cyclic-clause-err
returns-in-Err-Cyclic-clause-err c =
    let least = rw c.in-Err-Cyclic.field-0-is at c.in-Err-Cyclic.ensures.err in
    rw c.in-Err-Cyclic.v-is
    (first_cyclic c.args.scenarios.now c.loop-s.orders.items c.loop-s.s c.in-Err-Cyclic.v.0 c.index-scenarios-s.result
    c.loop-s-test.true c.index-scenarios-s.is c.loop-s.invariant least)

pub returns-in-Err-Cyclic-clause-known : goal.returns-in-Err-Cyclic-clause-known
returns-in-Err-Cyclic-clause-known c =
    let least = rw c.in-Err-Cyclic.field-0-is at c.in-Err-Cyclic.ensures.err in
    rw c.in-Err-Cyclic.v-is
    (named_below c.args.scenarios.now c.loop-s.s c.in-Err-Cyclic.v.0 c.index-scenarios-s.result
    c.loop-s-test.true c.index-scenarios-s.is c.count-count.ensures.scenario least)
