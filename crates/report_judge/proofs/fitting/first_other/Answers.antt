use Rattle.std.proofs.Common.{◌∙◌, ap₂}
use Rattle.std.specs.FinSet as set
use Rattle.report_judge.proofs.FittingLemmas.{match_more, same_where_none, first_apart}
use Rattle.report_judge.proofs.fitting.first_other.Goals as goal

pub returns : goal.returns
returns c =
    let a = c.args.kept.now in
    let b = c.args.ops.now in
    let is = c.union.ensures ∙ ap₂ (λ x y. set.union x y) c.difference.ensures c.difference-2.ensures in
    match_more c.first.result _ _ _ _ (same_where_none a b c.union.result is) (λ v. first_apart a b c.union.result is v.0) c.first.ensures
