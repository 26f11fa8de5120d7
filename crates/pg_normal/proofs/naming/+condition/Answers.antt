use Rattle.std.specs.Prelude.{◌≡◌, [], OnOk, IfErr}
use Rattle.std.specs.List.{flat_map}
use Rattle.std.proofs.Common.{ap, ◌∙◌, sym, subst}
use Rattle.pg_algebra.specs.Conditions.{params_of}
use Rattle.pg_normal.specs.Naming.{unknown_param, IsFirst}
use Rattle.pg_normal.proofs.NamingLemmas.{cond_faults, faults-Not, faults-conditions}
use Rattle.pg_normal.proofs.naming.+condition.Goals as goal

pub check_condition-returns-in-Not-clause-ok : goal.check_condition-returns-in-Not-clause-ok
check_condition-returns-in-Not-clause-ok t c = subst (λ fs. OnOk c.check_condition.result (fs ≡ []))
    (ap (cond_faults c.args.line c.args.params.now) c.get.ensures ∙ sym (ap (cond_faults c.args.line c.args.params.now) c.in-Not.is ∙ faults-Not c.args.line c.args.params.now c.in-Not.inner))
    c.check_condition.ensures.ok

pub check_condition-returns-in-Not-clause-err : goal.check_condition-returns-in-Not-clause-err
check_condition-returns-in-Not-clause-err t c = subst (λ fs. IfErr c.check_condition.result (IsFirst fs))
    (ap (cond_faults c.args.line c.args.params.now) c.get.ensures ∙ sym (ap (cond_faults c.args.line c.args.params.now) c.in-Not.is ∙ faults-Not c.args.line c.args.params.now c.in-Not.inner))
    c.check_condition.ensures.err

pub check_condition-returns-in-And-clause-ok : goal.check_condition-returns-in-And-clause-ok
check_condition-returns-in-And-clause-ok t c = subst (λ fs. OnOk c.check_conditions.result (fs ≡ []))
    (ap (λ cs. flat_map (unknown_param c.args.line c.args.params.now) (flat_map params_of cs)) c.members.ensures
    ∙ faults-conditions c.args.line c.args.params.now c.args.cond.now c.in-And.list.members c.in-And.is)
    c.check_conditions.ensures.ok

pub check_condition-returns-in-And-clause-err : goal.check_condition-returns-in-And-clause-err
check_condition-returns-in-And-clause-err t c = subst (λ fs. IfErr c.check_conditions.result (IsFirst fs))
    (ap (λ cs. flat_map (unknown_param c.args.line c.args.params.now) (flat_map params_of cs)) c.members.ensures
    ∙ faults-conditions c.args.line c.args.params.now c.args.cond.now c.in-And.list.members c.in-And.is)
    c.check_conditions.ensures.err
