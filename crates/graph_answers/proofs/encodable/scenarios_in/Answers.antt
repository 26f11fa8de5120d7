use Rattle.std.proofs.Common.{◌≡◌, slice_get, Some, subst, ap, ◌∙◌}
use Rattle.cpog_base.specs.declared.status.Status.TheVariants as status
use Rattle.pg_normal.specs.Denoting.{IsFirstUnbound}
use Rattle.pg_normal.specs.Normals.{params_in}
use Rattle.refusal_lines.specs.declared.refusal.Refusal.TheVariants as refusal
use Rattle.refusal_lines.specs.Refusal.{At, Tells}
use Rattle.graph_answers.specs.Refusals.{IsUnboundAnswer}
use Rattle.graph_answers.proofs.RefusalLemmas.{unbound_told}
use Rattle.refusal_lines.proofs.StopLemmas.{stop_map}
use Rattle.graph_answers.proofs.encodable.scenarios_in.Goals as goal

pub returns-in-Err-Unbound-clause-err : goal.returns-in-Err-Unbound-clause-err
returns-in-Err-Unbound-clause-err c =
    let f = c.args.file.now in
    let line = c.in-Err-Unbound.line in
    let name = c.get-param.result.now in
    let first : IsFirstUnbound f line c.in-Err-Unbound.number = rw c.in-Err-Unbound.field-0-is at c.in-Err-Unbound.ensures.err in
    let params : c.params.result.now ≡ params_in f = c.params.ensures ∙ ap (λ scope. scope.params) c.requires.whole in
    stop_map (Tells status.Names (refusal.Unbound line name)) (At status.Names (IsUnboundAnswer f))
    (unbound_told f line c.from.result name c.requires.in_order (rw (c.from.ensures, c.in-Err-Unbound.number-is) first) (subst (λ ns. slice_get ns c.from.result ≡ Some name) params c.get-param.ensures))
    c.refuse_unbound.result (rw c.in-Err-Unbound.line-is at c.refuse_unbound.ensures)
