use Rattle.std.proofs.Common.{◌≡◌, ◌+◌, List, Bool, length, map, sym, ap, ◌∙◌, subst, get_or}
use Rattle.cpog_defs.specs.Codes.{word_bits}
use Rattle.cpog_defs.specs.Gates.{GateList, IsRefOver, signal_count}
use Rattle.gate_core.proofs.GateLemmas.{length-word_bits}
use Rattle.gate_forms.specs.declared.signs.Form.TheVariants.{Kept}
use Rattle.gate_forms.specs.Forms.{new_gates, new_flags, new_ref, IsFlipped}
use Rattle.gate_forms.proofs.FormLemmas.{length-new_flags, flipped_form, changed, all_flags}
use Rattle.gate_forms.proofs.forms.flip.Goals as goal

pub push_gates_under-requires-clause-one_each : goal.push_gates_under-requires-clause-one_each
push_gates_under-requires-clause-one_each c = ap length c.in_ok-flags.ensures ∙ length-word_bits c.args.mask c.inputs.result ∙ c.inputs.ensures.inputs

pub refs_under-requires : goal.refs_under-requires
refs_under-requires c =
    let gates = c.args.gates.now in
    let flags : length c.in_ok-flags.flags.items ≡ gates.inputs = ap length c.in_ok-flags.ensures ∙ length-word_bits c.args.mask c.inputs.result ∙ c.inputs.ensures.inputs in
    let size : length c.deref.result.now ≡ signal_count gates = ap length c.deref.ensures.value ∙ ap length c.in_ok-push_gates_under.ensures.flags ∙ length-new_flags Kept c.in_ok-flags.flags.items gates.gates ∙ ap (λ n. n + length gates.gates) flags in
    λ k d l. subst (λ n. IsRefOver n (get_or c.args.refs.now k d)) (sym size) (c.requires.refs k d l)

pub returns-clause-flipped : goal.returns-clause-flipped
returns-clause-flipped c =
    let gates = c.args.gates.now in
    let ok = c.gates-all.ensures.earlier in
    let flags : c.in_ok-flags.flags.items ≡ word_bits c.args.mask gates.inputs = c.in_ok-flags.ensures ∙ ap (word_bits c.args.mask) c.inputs.ensures.inputs in
    let make : List Bool → GateList = λ f. record { inputs = gates.inputs; gates = new_gates Kept f gates.gates } in
    let list : c.push_gates_under.new.list ≡ changed Kept gates c.args.mask ok = c.in_ok-push_gates_under.ensures.gates ∙ ap make flags in
    let refs : c.in_ok-new.new.items ≡ map (new_ref (all_flags Kept gates c.args.mask ok)) c.args.refs.now =
    c.in_ok-new.ensures ∙ ap (λ f. map (new_ref f) c.args.refs.now) (c.deref.ensures.value ∙ c.in_ok-push_gates_under.ensures.flags ∙ ap (λ f. new_flags Kept f gates.gates) flags) in
    subst (λ l. IsFlipped c.args.mask gates c.args.refs.now l c.in_ok-new.new.items) (sym list) (subst (IsFlipped c.args.mask gates c.args.refs.now (changed Kept gates c.args.mask ok)) (sym refs) (flipped_form c.args.mask gates c.args.refs.now ok c.requires.refs))
