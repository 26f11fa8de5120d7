use Rattle.std.proofs.Common.{ap, ◌∙◌}
use Rattle.std.specs.Ordering.{nat_cmp}
use Rattle.std.specs.FinSet as set
use Rattle.cpog_defs.specs.Gates.{signal_values}
use Rattle.handshake_eqs.specs.Agreement.{request_enabled}
use Rattle.handshake_eqs.proofs.SettleLemmas.{with_true, with_false}
use Rattle.handshake_eqs.proofs.settling.settle.Goals as goal
use Rattle.handshake_eqs.proofs.settling.settle.Goals.{then-go, else-go}

pub returns-clause-requests : goal.returns-clause-requests
returns-clause-requests c =
    let n = c.args.netlist.now in
    let i = c.args.inputs.now in
    let values = c.eval.ensures ∙ ap (λ gates. signal_values gates i.x) c.gates.ensures.gates in
    λ v. elim c.if-go.branch [
      | then-go w ↦ ap (λ s. set.contains s v) w.requests-is ∙ w.enabled-requests.ensures v ∙ ap (λ x. request_enabled n x i.acks v) values ∙ with_true i.go _ w.if-go.true
      | else-go w ↦ ap (λ s. set.contains s v) (w.requests-is ∙ w.empty-requests.ensures) ∙ set.contains-empty nat_cmp v ∙ with_false i.go _ w.if-go.false
    ]
