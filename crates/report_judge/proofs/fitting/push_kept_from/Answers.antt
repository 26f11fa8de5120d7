use Rattle.std.proofs.Common.{sym, ap, ◌∙◌}
use Rattle.report_judge.proofs.FittingLemmas.{kept_more, kept_same}
use Rattle.report_judge.proofs.fitting.push_kept_from.Goals.{then-is_kept+in_ok-push, else-is_kept}
use Rattle.report_judge.proofs.fitting.push_kept_from.Goals as goal

pub loop-v-preserved : goal.loop-v-preserved
loop-v-preserved c =
    let old = c.args.arcs.now.items in
    elim c.if-is_kept.branch [
      | then-is_kept+in_ok-push w ↦
          ap (λ v. v.items) w.arcs-is ∙ w.in_ok-push.ensures.items
          ∙ kept_more old c.loop-v.arcs.items c.args.graph.now c.args.values.now c.loop-v.v c.args.u.0 c.loop-v.invariant (sym c.is_kept.ensures ∙ w.if-is_kept.true)
      | else-is_kept w ↦
          ap (λ v. v.items) w.arcs-is
          ∙ kept_same old c.loop-v.arcs.items c.args.graph.now c.args.values.now c.loop-v.v c.args.u.0 c.loop-v.invariant (sym c.is_kept.ensures ∙ w.if-is_kept.false)
    ]
