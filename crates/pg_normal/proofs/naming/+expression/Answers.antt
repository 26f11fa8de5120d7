use Rattle.std.specs.Prelude.{◌≡◌, [], ◌++◌, OnOk, IfErr}
use Rattle.std.specs.List.{flat_map}
use Rattle.std.proofs.Common.{ap, ap₂, ◌∙◌, sym, subst}
use Rattle.std.proofs.lemmas.Result.{err_from_is_err_and}
use Rattle.pg_normal.specs.Naming.{expr_faults, IsFirst}
use Rattle.pg_normal.proofs.NamingLemmas.{cond_faults, faults-When, faults-row, first_in}
use Rattle.pg_normal.proofs.naming.+expression.Goals as goal

pub check_expression-returns-in_err-check_condition-in-When-clause-err : goal.check_expression-returns-in_err-check_condition-in-When-clause-err
check_expression-returns-in_err-check_condition-in-When-clause-err t c =
    let p = err_from_is_err_and c.from_residual.result c.from_residual.ensures.1 in
    rw (p.1, p.2) (first_in (expr_faults c.args.line c.args.scope.now c.args.expr.now)
    (cond_faults c.args.line c.args.scope.now.params c.get.result.now)
    (expr_faults c.args.line c.args.scope.now c.in-When.inner) c.in_err-check_condition-in-When.field-0.0
    (ap (expr_faults c.args.line c.args.scope.now) c.in-When.is ∙ faults-When c.args.line c.args.scope.now c.in-When.cond c.in-When.inner
    ∙ ap (λ x. cond_faults c.args.line c.args.scope.now.params x ++ expr_faults c.args.line c.args.scope.now c.in-When.inner) (sym c.get.ensures))
    c.in_err-check_condition-in-When.ensures.err)

pub check_expression-returns-in_ok-check_condition-in-When-clause-ok : goal.check_expression-returns-in_ok-check_condition-in-When-clause-ok
check_expression-returns-in_ok-check_condition-in-When-clause-ok t c = subst (λ fs. OnOk c.check_expression.result (fs ≡ []))
    (sym (ap (expr_faults c.args.line c.args.scope.now) c.in-When.is ∙ faults-When c.args.line c.args.scope.now c.in-When.cond c.in-When.inner
    ∙ ap₂ (λ fs x. fs ++ expr_faults c.args.line c.args.scope.now x)
    (ap (cond_faults c.args.line c.args.scope.now.params) (sym c.get.ensures)
    ∙ c.in_ok-check_condition-in-When.ensures.ok) (sym c.get-in-When.ensures)))
    c.check_expression.ensures.ok

pub check_expression-returns-in_ok-check_condition-in-When-clause-err : goal.check_expression-returns-in_ok-check_condition-in-When-clause-err
check_expression-returns-in_ok-check_condition-in-When-clause-err t c = subst (λ fs. IfErr c.check_expression.result (IsFirst fs))
    (sym (ap (expr_faults c.args.line c.args.scope.now) c.in-When.is ∙ faults-When c.args.line c.args.scope.now c.in-When.cond c.in-When.inner
    ∙ ap₂ (λ fs x. fs ++ expr_faults c.args.line c.args.scope.now x)
    (ap (cond_faults c.args.line c.args.scope.now.params) (sym c.get.ensures)
    ∙ c.in_ok-check_condition-in-When.ensures.ok) (sym c.get-in-When.ensures)))
    c.check_expression.ensures.err

pub check_expression-returns-in-Overlay-clause-ok : goal.check_expression-returns-in-Overlay-clause-ok
check_expression-returns-in-Overlay-clause-ok t c = subst (λ fs. OnOk c.check_expressions.result (fs ≡ []))
    (ap (flat_map (expr_faults c.args.line c.args.scope.now)) c.members.ensures ∙ faults-row c.args.line c.args.scope.now c.args.expr.now c.in-Overlay.list.members c.in-Overlay.is)
    c.check_expressions.ensures.ok

pub check_expression-returns-in-Overlay-clause-err : goal.check_expression-returns-in-Overlay-clause-err
check_expression-returns-in-Overlay-clause-err t c = subst (λ fs. IfErr c.check_expressions.result (IsFirst fs))
    (ap (flat_map (expr_faults c.args.line c.args.scope.now)) c.members.ensures ∙ faults-row c.args.line c.args.scope.now c.args.expr.now c.in-Overlay.list.members c.in-Overlay.is)
    c.check_expressions.ensures.err
