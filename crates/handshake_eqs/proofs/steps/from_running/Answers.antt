use Rattle.std.proofs.Common.{sym, ap, subst, ◌∙◌}
use Rattle.std.proofs.lemmas.Bool.{both_ways}
use Rattle.std.specs.FinSet as set
use Rattle.handshake_eqs.specs.declared.machine.Machine.TheVariants.{Running}
use Rattle.handshake_eqs.specs.Machines.{Step}
use Rattle.handshake_eqs.proofs.StepLemmas.{finished, not_finished, all_from_subset, subset_from_all}
use Rattle.handshake_eqs.proofs.steps.from_running.Goals as goal

pub returns-then-subset-clause-some : goal.returns-then-subset-clause-some
returns-then-subset-clause-some c = λ orders codes at.
    let subset = c.subset.ensures ∙ ap (λ s. set.is_subset s c.args.acked) c.ops.ensures in
    subst (λ e. Step orders codes (Running c.args.scenario c.args.acked) e c.returning.result) (sym c.in-Finish.is)
    (finished orders codes c.args.scenario c.args.acked c.args.order.now c.returning.result at (all_from_subset c.args.acked c.args.order.now (sym subset ∙ c.if-subset.true)) c.returning.ensures)

pub returns-else-subset-clause-none : goal.returns-else-subset-clause-none
returns-else-subset-clause-none c = λ m orders codes at h.
    let subset = c.subset.ensures ∙ ap (λ s. set.is_subset s c.args.acked) c.ops.ensures in
    not_finished orders codes c.args.scenario c.args.acked c.args.order.now m at (λ all. both_ways _ c.if-subset.false (subset ∙ subset_from_all c.args.acked c.args.order.now all))
    (subst (λ e. Step orders codes (Running c.args.scenario c.args.acked) e m) c.in-Finish.is h)
