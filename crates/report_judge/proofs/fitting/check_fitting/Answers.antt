use Rattle.std.proofs.Common.{◌∙◌, ap, length, arith, below_more}
use Rattle.scenario_check.proofs.RowLemmas.{written}
use Rattle.report_judge.specs.Fitting.{FitsAt}
use Rattle.report_judge.specs.Steps.{IsMisfitAt}
use Rattle.std.proofs.Common.{subst}
use Rattle.report_judge.proofs.FittingLemmas.{fits_all}
use Rattle.report_judge.proofs.fitting.check_fitting.Goals as goal

pub loop-s-preserved : goal.loop-s-preserved
loop-s-preserved c =
    let r = c.args.report.now in
    let values = c.loop-s.values in (
      ap length (written values.len values.items c.misfit_at.new.values (c.misfit_at.auto.values ∙ c.deref_mut.ensures.len))
          ∙ c.misfit_at.auto.values ∙ ap length c.deref_mut.ensures.value ∙ c.loop-s.invariant.0,
      below_more (FitsAt r.encoding r.scenarios) _ c.loop-s.invariant.1 (subst (IsMisfitAt r.encoding r.scenarios c.loop-s.s) c.in-None.is c.in_ok-v.ensures),
    )

pub returns-clause-ok : goal.returns-clause-ok
returns-clause-ok c =
    let r = c.args.report.now in
    let is = c.version-version.ensures.report in
    fits_all r.encoding r.scenarios is.one_code_each (λ t l. c.loop-s.invariant.1 t (omega (arith, l, c.loop-s-test.false, ap length c.scenarios-s-end.ensures)))
