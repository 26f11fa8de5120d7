use Rattle.std.proofs.Common.{arith}
use Rattle.std.specs.Prelude.{length}
use Rattle.std.proofs.lemmas.Bool.{both_ways}
use Rattle.std.proofs.lemmas.Result.{err_from_is_err_and}
use Rattle.report_judge.specs.Known.{printed_lower, IsOpenBetween, OpenFollows}
use Rattle.report_judge.specs.Parts.{Part}
use Rattle.report_judge.proofs.StepLemmas.{by_classes, one_more, first_fault, all_hold}
use Rattle.report_judge.proofs.judging.check_open.Goals as goal

pub is_open_between-requires-clause-count : goal.is_open_between-requires-clause-count
is_open_between-requires-clause-count c = c.requires.before Part.Count (omega arith)

pub returns-then-not-is_open_between-clause-err : goal.returns-then-not-is_open_between-clause-err
returns-then-not-is_open_between-clause-err c =
    let r = c.args.report.now in
    record {
      fails = by_classes r c.args.basis.now c.requires.basis (λ orders columns. IsOpenBetween r.patterns r.bits columns (printed_lower r.bound) (length r.encoding.gates.gates) r.open_part → ⊥)
          (λ between. both_ways _ c.if-not-is_open_between.true (c.is_open_between.ensures.1 between));
      earlier = c.requires.before;
    }

pub returns-in_err-check_followed-clause-err : goal.returns-in_err-check_followed-clause-err
returns-in_err-check_followed-clause-err c =
    let r = c.args.report.now in
    let between = by_classes r c.args.basis.now c.requires.basis (λ orders columns. IsOpenBetween r.patterns r.bits columns (printed_lower r.bound) (length r.encoding.gates.gates) r.open_part)
    (c.is_open_between.ensures.0 c.if-not-is_open_between.false) in
    let p = err_from_is_err_and c.from_residual.result c.from_residual.ensures.1 in
    rw (p.1, p.2) (first_fault r Part.Followed (one_more r Part.Open c.requires.before between) c.in_err-check_followed.field-0.0 c.in_err-check_followed.ensures.err)

pub returns-then-not-reaches_budget-clause-err : goal.returns-then-not-reaches_budget-clause-err
returns-then-not-reaches_budget-clause-err c =
    let r = c.args.report.now in
    let between = by_classes r c.args.basis.now c.requires.basis (λ orders columns. IsOpenBetween r.patterns r.bits columns (printed_lower r.bound) (length r.encoding.gates.gates) r.open_part)
    (c.is_open_between.ensures.0 c.if-not-is_open_between.false) in
    let follows = by_classes r c.args.basis.now c.requires.basis (λ orders columns. OpenFollows r.patterns r.bits columns r.open_part) c.in_ok-check_followed.ensures.ok in
    record {
      fails = λ reaches. both_ways _ c.if-not-reaches_budget.true (c.reaches_budget.ensures.1 reaches);
      earlier = one_more r Part.Followed (one_more r Part.Open c.requires.before between) follows;
    }

pub returns-clause-ok : goal.returns-clause-ok
returns-clause-ok c =
    let r = c.args.report.now in
    let between = by_classes r c.args.basis.now c.requires.basis (λ orders columns. IsOpenBetween r.patterns r.bits columns (printed_lower r.bound) (length r.encoding.gates.gates) r.open_part)
    (c.is_open_between.ensures.0 c.if-not-is_open_between.false) in
    let follows = by_classes r c.args.basis.now c.requires.basis (λ orders columns. OpenFollows r.patterns r.bits columns r.open_part) c.in_ok-check_followed.ensures.ok in
    all_hold r (one_more r Part.Long (one_more r Part.Followed (one_more r Part.Open c.requires.before between) follows) (c.reaches_budget.ensures.0 c.if-not-reaches_budget.false))
