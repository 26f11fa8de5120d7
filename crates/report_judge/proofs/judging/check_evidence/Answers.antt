use Rattle.std.specs.Prelude.{length}
use Rattle.std.proofs.lemmas.Bool.{both_ways}
use Rattle.report_judge.specs.Known.{printed_lower, SpeaksOf, IsShown}
use Rattle.report_judge.specs.Parts.{Part}
use Rattle.report_judge.specs.Reasons.{HoldBelow}
use Rattle.report_judge.proofs.StepLemmas.{ok_more, err_more, by_classes, one_more, first_fault}
use Rattle.report_judge.proofs.judging.check_evidence.Goals as goal

pub returns-then-not-evidence_speaks-clause-err : goal.returns-then-not-evidence_speaks-clause-err
returns-then-not-evidence_speaks-clause-err c =
    let r = c.args.report.now in
    record {
      fails = by_classes r c.args.basis.now c.requires.basis (λ orders columns. SpeaksOf r.patterns r.bits columns (printed_lower r.bound) r.evidence → ⊥)
          (λ speaks. both_ways _ c.if-not-evidence_speaks.true (c.evidence_speaks.ensures.1 speaks));
      earlier = c.requires.before;
    }

pub returns-clause-ok : goal.returns-clause-ok
returns-clause-ok c =
    let r = c.args.report.now in
    let speaks = by_classes r c.args.basis.now c.requires.basis (λ orders columns. SpeaksOf r.patterns r.bits columns (printed_lower r.bound) r.evidence) (c.evidence_speaks.ensures.0 c.if-not-evidence_speaks.false) in
    ok_more c.check_shown.result _ (HoldBelow r 9)
    (λ shown. one_more r Part.Shown (one_more r Part.Evidence c.requires.before speaks)
    (by_classes r c.args.basis.now c.requires.basis (λ orders columns. IsShown (length r.names) orders r.patterns r.bits columns r.evidence) shown)) c.check_shown.ensures.ok

pub returns-clause-err : goal.returns-clause-err
returns-clause-err c =
    let r = c.args.report.now in
    let speaks = by_classes r c.args.basis.now c.requires.basis (λ orders columns. SpeaksOf r.patterns r.bits columns (printed_lower r.bound) r.evidence) (c.evidence_speaks.ensures.0 c.if-not-evidence_speaks.false) in
    err_more c.check_shown.result _ _ (first_fault r Part.Shown (one_more r Part.Evidence c.requires.before speaks)) c.check_shown.ensures.err
