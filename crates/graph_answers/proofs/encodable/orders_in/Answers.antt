use Rattle.std.proofs.Common.{◌≡◌, ◌<◌, length, slice_get, Some, sym, subst, arith}
use Rattle.cpog_base.specs.declared.status.Status.TheVariants as status
use Rattle.scenario_check.specs.Cycles.{IsFirstCyclic}
use Rattle.refusal_lines.specs.declared.refusal.Refusal.TheVariants as refusal
use Rattle.refusal_lines.specs.Refusal.{At, Tells}
use Rattle.graph_answers.specs.Refusals.{IsCyclicAnswer}
use Rattle.graph_answers.proofs.ReportLemmas.{length-orders}
use Rattle.graph_answers.proofs.RefusalLemmas.{cyclic_scenario, cyclic_operation, cyclic_told}
use Rattle.refusal_lines.proofs.StopLemmas.{stop_map}
use Rattle.graph_answers.proofs.encodable.orders_in.Goals as goal

pub get-scenario-requires : goal.get-scenario-requires
get-scenario-requires c =
    subst (λ i. i < length c.args.names.now) (sym c.from.ensures) (rw c.in-Err-Cyclic.s-is (cyclic_scenario c.args.file.now c.args.names.now c.requires.names c.args.scenarios.now c.requires.scenarios c.in-Err-Cyclic.s.0 c.in-Err-Cyclic.v.0
    (rw c.in-Err-Cyclic.field-0-is at c.in-Err-Cyclic.ensures.err)))

pub get-operation-requires : goal.get-operation-requires
get-operation-requires c =
    subst (λ ns. c.from-in-Err-Cyclic.result < length ns) (sym c.operations.ensures)
    (subst (λ i. i < length c.args.file.now.operations) (sym c.from-in-Err-Cyclic.ensures) (rw c.in-Err-Cyclic.v-is (cyclic_operation c.args.file.now c.args.names.now c.requires.names c.args.scenarios.now c.requires.scenarios c.in-Err-Cyclic.s.0 c.in-Err-Cyclic.v.0
    (rw c.in-Err-Cyclic.field-0-is at c.in-Err-Cyclic.ensures.known))))

pub returns-in-Ok-clause-few : goal.returns-in-Ok-clause-few
returns-in-Ok-clause-few c =
    rw (← c.in-Ok.orders-is) (omega (arith, c.requires.few, length-orders c.args.scenarios.now c.in-Ok.orders.items c.in-Ok.ensures.orders))

pub returns-in-Err-Cyclic-clause-err : goal.returns-in-Err-Cyclic-clause-err
returns-in-Err-Cyclic-clause-err c =
    let f = c.args.file.now in
    let names = c.args.names.now in
    let scenario = c.get-scenario.result.now in
    let operation = c.get-operation.result.now in
    let first : IsFirstCyclic c.args.scenarios.now c.in-Err-Cyclic.s.0 c.in-Err-Cyclic.v.0 = rw c.in-Err-Cyclic.field-0-is at c.in-Err-Cyclic.ensures.err in
    stop_map (Tells status.Cyclic (refusal.Cyclic scenario operation)) (At status.Cyclic (IsCyclicAnswer f))
    (cyclic_told f names c.requires.names c.args.scenarios.now c.requires.scenarios c.from.result c.from-in-Err-Cyclic.result scenario operation c.requires.named
    (rw (c.from.ensures, c.from-in-Err-Cyclic.ensures, c.in-Err-Cyclic.s-is, c.in-Err-Cyclic.v-is) first) c.get-scenario.ensures
    (subst (λ ns. slice_get ns c.from-in-Err-Cyclic.result ≡ Some operation) c.operations.ensures c.get-operation.ensures))
    c.refuse_cycle.result c.refuse_cycle.ensures
