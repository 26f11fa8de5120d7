use Rattle.std.proofs.Common.{◌≡◌, ◌+◌, List, Bool, length, map, sym, ap, ◌∙◌, subst, get_or}
use Rattle.cpog_defs.specs.Codes.{word_bits}
use Rattle.cpog_defs.specs.Gates.{GateList, IsRefOver, signal_count}
use Rattle.gate_core.proofs.GateLemmas.{length-word_bits}
use Rattle.gate_forms.specs.declared.signs.Form.TheVariants.{Normal}
use Rattle.gate_forms.specs.Forms.{new_gates, new_flags, new_ref, IsNormalForm}
use Rattle.gate_forms.proofs.FormLemmas.{length-new_flags, normal_form, changed, all_flags}
use Rattle.gate_forms.proofs.forms.normalise.Goals as goal

pub push_gates_under-requires-clause-one_each : goal.push_gates_under-requires-clause-one_each
push_gates_under-requires-clause-one_each c = ap length c.in_ok-flags.ensures ∙ length-word_bits 0 c.inputs.result ∙ c.inputs.ensures.inputs

pub refs_under-requires : goal.refs_under-requires
refs_under-requires c =
    let gates = c.args.gates.now in
    let flags : length c.in_ok-flags.flags.items ≡ gates.inputs = ap length c.in_ok-flags.ensures ∙ length-word_bits 0 c.inputs.result ∙ c.inputs.ensures.inputs in
    let size : length c.deref.result.now ≡ signal_count gates = ap length c.deref.ensures.value ∙ ap length c.in_ok-push_gates_under.ensures.flags ∙ length-new_flags Normal c.in_ok-flags.flags.items gates.gates ∙ ap (λ n. n + length gates.gates) flags in
    λ k d l. subst (λ n. IsRefOver n (get_or c.args.refs.now k d)) (sym size) (c.requires k d l)

pub returns : goal.returns
returns c =
    let gates = c.args.gates.now in
    let ok = c.gates-all.ensures.earlier in
    let flags : c.in_ok-flags.flags.items ≡ word_bits 0 gates.inputs = c.in_ok-flags.ensures ∙ ap (word_bits 0) c.inputs.ensures.inputs in
    let make : List Bool → GateList = λ f. record { inputs = gates.inputs; gates = new_gates Normal f gates.gates } in
    let list : c.push_gates_under.new.list ≡ changed Normal gates 0 ok = c.in_ok-push_gates_under.ensures.gates ∙ ap make flags in
    let refs : c.in_ok-new.new.items ≡ map (new_ref (all_flags Normal gates 0 ok)) c.args.refs.now =
    c.in_ok-new.ensures ∙ ap (λ f. map (new_ref f) c.args.refs.now) (c.deref.ensures.value ∙ c.in_ok-push_gates_under.ensures.flags ∙ ap (λ f. new_flags Normal f gates.gates) flags) in
    subst (λ l. IsNormalForm gates c.args.refs.now l c.in_ok-new.new.items) (sym list) (subst (IsNormalForm gates c.args.refs.now (changed Normal gates 0 ok)) (sym refs) (normal_form gates c.args.refs.now ok c.requires))
