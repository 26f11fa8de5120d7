use Rattle.std.proofs.Common.{IsTrue, rules, ap, ◌∙◌}
use Rattle.std.specs.FinSet as set
use Rattle.cpog_defs.specs.Orders.{has}
use Rattle.handshake_eqs.proofs.StepLemmas.{ready_tells}
use Rattle.handshake_eqs.proofs.steps.is_ready.Goals as goal

pub returns-then-contains-clause-ready : goal.returns-then-contains-clause-ready
returns-then-contains-clause-ready c =
    let subset = c.subset.ensures ∙ ap (λ s. set.is_subset s c.args.acked.now) c.before-then-contains.ensures in
    let has_it : IsTrue (has c.args.order.now c.args.v.0) = search rules in
    rw subset (ready_tells c.args.acked.now c.args.v.0 c.args.order.now has_it)
