use Rattle.std.proofs.Common.{sym, subst}
use Rattle.handshake_eqs.specs.Machines.{Step}
use Rattle.handshake_eqs.proofs.StepLemmas.{is_found, if_none, order_there}
use Rattle.handshake_eqs.proofs.steps.step.Goals as goal

pub returns-in-Idle-clause-some : goal.returns-in-Idle-clause-some
returns-in-Idle-clause-some c = (is_found c.args.orders.now c.args.codes.now c.args.machine.now c.args.event c.from_idle.result _ c.requires.one_each c.requires.scenario
    (λ m h. subst (λ old. Step c.args.orders.now c.args.codes.now old c.args.event m) (sym c.in-Idle.is) (h c.args.orders.now)) c.from_idle.ensures.some).some

pub returns-in-Idle-clause-kept : goal.returns-in-Idle-clause-kept
returns-in-Idle-clause-kept c = (is_found c.args.orders.now c.args.codes.now c.args.machine.now c.args.event c.from_idle.result _ c.requires.one_each c.requires.scenario
    (λ m h. subst (λ old. Step c.args.orders.now c.args.codes.now old c.args.event m) (sym c.in-Idle.is) (h c.args.orders.now)) c.from_idle.ensures.some).kept

pub returns-in-Idle-clause-scenario : goal.returns-in-Idle-clause-scenario
returns-in-Idle-clause-scenario c = (is_found c.args.orders.now c.args.codes.now c.args.machine.now c.args.event c.from_idle.result _ c.requires.one_each c.requires.scenario
    (λ m h. subst (λ old. Step c.args.orders.now c.args.codes.now old c.args.event m) (sym c.in-Idle.is) (h c.args.orders.now)) c.from_idle.ensures.some).scenario

pub returns-in-Idle-clause-none : goal.returns-in-Idle-clause-none
returns-in-Idle-clause-none c =
    if_none c.from_idle.result _ _ (λ h m step. h m c.args.orders.now
    (subst (λ old. Step c.args.orders.now c.args.codes.now old c.args.event m) c.in-Idle.is step))
    c.from_idle.ensures.none

pub returns-in-Running-clause-some : goal.returns-in-Running-clause-some
returns-in-Running-clause-some c = (is_found c.args.orders.now c.args.codes.now c.args.machine.now c.args.event c.from_running.result _ c.requires.one_each c.requires.scenario
    (λ m h. subst (λ old. Step c.args.orders.now c.args.codes.now old c.args.event m) (sym c.in-Running.is)
    (h c.args.orders.now c.args.codes.now (order_there c.args.orders.now c.in-Running.scenario c.in-Running.acked
    c.args.machine.now c.index-orders-scenario.result c.in-Running.is c.requires.scenario
    c.index-orders-scenario.is))) c.from_running.ensures.some).some

pub returns-in-Running-clause-kept : goal.returns-in-Running-clause-kept
returns-in-Running-clause-kept c = (is_found c.args.orders.now c.args.codes.now c.args.machine.now c.args.event c.from_running.result _ c.requires.one_each c.requires.scenario
    (λ m h. subst (λ old. Step c.args.orders.now c.args.codes.now old c.args.event m) (sym c.in-Running.is)
    (h c.args.orders.now c.args.codes.now (order_there c.args.orders.now c.in-Running.scenario c.in-Running.acked
    c.args.machine.now c.index-orders-scenario.result c.in-Running.is c.requires.scenario
    c.index-orders-scenario.is))) c.from_running.ensures.some).kept

pub returns-in-Running-clause-scenario : goal.returns-in-Running-clause-scenario
returns-in-Running-clause-scenario c = (is_found c.args.orders.now c.args.codes.now c.args.machine.now c.args.event c.from_running.result _ c.requires.one_each c.requires.scenario
    (λ m h. subst (λ old. Step c.args.orders.now c.args.codes.now old c.args.event m) (sym c.in-Running.is)
    (h c.args.orders.now c.args.codes.now (order_there c.args.orders.now c.in-Running.scenario c.in-Running.acked
    c.args.machine.now c.index-orders-scenario.result c.in-Running.is c.requires.scenario
    c.index-orders-scenario.is))) c.from_running.ensures.some).scenario

pub returns-in-Running-clause-none : goal.returns-in-Running-clause-none
returns-in-Running-clause-none c =
    if_none c.from_running.result _ _ (λ h m step. h m c.args.orders.now c.args.codes.now
    (order_there c.args.orders.now c.in-Running.scenario c.in-Running.acked c.args.machine.now
    c.index-orders-scenario.result c.in-Running.is c.requires.scenario c.index-orders-scenario.is)
    (subst (λ old. Step c.args.orders.now c.args.codes.now old c.args.event m) c.in-Running.is step))
    c.from_running.ensures.none

pub returns-in-Returning-clause-some : goal.returns-in-Returning-clause-some
returns-in-Returning-clause-some c = (is_found c.args.orders.now c.args.codes.now c.args.machine.now c.args.event c.from_returning.result _ c.requires.one_each c.requires.scenario
    (λ m h. subst (λ old. Step c.args.orders.now c.args.codes.now old c.args.event m) (sym c.in-Returning.is) (h c.args.orders.now c.args.codes.now)) c.from_returning.ensures.some).some

pub returns-in-Returning-clause-kept : goal.returns-in-Returning-clause-kept
returns-in-Returning-clause-kept c = (is_found c.args.orders.now c.args.codes.now c.args.machine.now c.args.event c.from_returning.result _ c.requires.one_each c.requires.scenario
    (λ m h. subst (λ old. Step c.args.orders.now c.args.codes.now old c.args.event m) (sym c.in-Returning.is) (h c.args.orders.now c.args.codes.now)) c.from_returning.ensures.some).kept

pub returns-in-Returning-clause-scenario : goal.returns-in-Returning-clause-scenario
returns-in-Returning-clause-scenario c = (is_found c.args.orders.now c.args.codes.now c.args.machine.now c.args.event c.from_returning.result _ c.requires.one_each c.requires.scenario
    (λ m h. subst (λ old. Step c.args.orders.now c.args.codes.now old c.args.event m) (sym c.in-Returning.is) (h c.args.orders.now c.args.codes.now)) c.from_returning.ensures.some).scenario

pub returns-in-Returning-clause-none : goal.returns-in-Returning-clause-none
returns-in-Returning-clause-none c =
    if_none c.from_returning.result _ _ (λ h m step. h m c.args.orders.now c.args.codes.now
    (subst (λ old. Step c.args.orders.now c.args.codes.now old c.args.event m) c.in-Returning.is step))
    c.from_returning.ensures.none
