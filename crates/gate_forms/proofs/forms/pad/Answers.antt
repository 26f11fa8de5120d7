use Rattle.std.proofs.Common.{◌≡◌, ℕ, ◌+◌, ◌-◌, ◌++◌, [], ◌∷◌, List, length, replicate, suc, sym, ap, ◌∙◌, subst, arith, length-append}
use Rattle.std.proofs.lemmas.List.{length-replicate}
use Rattle.cpog_defs.specs.declared.types.Gate.{Gate}
use Rattle.cpog_defs.specs.Gates.{GateList, signal_count}
use Rattle.gate_forms.specs.Forms.{idle_gate, padded, KeepsValues}
use Rattle.gate_forms.proofs.FormLemmas.{padded_ref_value}
use Rattle.gate_forms.proofs.MoveLemmas.{idle_more}
use Rattle.gate_forms.proofs.forms.pad.Goals as goal

size : (list gates : GateList) (n : ℕ) → list ≡ record gates { gates = gates.gates ++ replicate n idle_gate } → signal_count list ≡ gates.inputs + length gates.gates + n
size list gates n e = ap signal_count e ∙ omega (arith, length-append gates.gates (replicate n idle_gate), length-replicate n idle_gate)

pub push-requires-clause-earlier : goal.push-requires-clause-earlier
push-requires-clause-earlier c = omega (arith, size c.loop-g.list c.args.gates.now (c.loop-g.g - length c.args.gates.now.gates) c.loop-g.invariant, c.requires.inputs)

pub push-requires-clause-room : goal.push-requires-clause-room
push-requires-clause-room c = omega (arith, size c.loop-g.list c.args.gates.now (c.loop-g.g - length c.args.gates.now.gates) c.loop-g.invariant, c.requires.room, c.len-g.ensures.len)

pub loop-g-preserved : goal.loop-g-preserved
loop-g-preserved c =
    let gates = c.args.gates.now in
    let make : List Gate → GateList = λ l. record { inputs = gates.inputs; gates = l } in
    let n : ℕ = c.loop-g.g - length gates.gates in
    let more : suc n ≡ c.loop-g.g + 1 - length gates.gates = omega (arith, c.len-g.ensures.len) in
    c.in_ok-push.ensures.gates ∙ ap (λ (l : GateList). let made : GateList = record l { gates = l.gates ++ idle_gate ∷ [] } in made) c.loop-g.invariant
    ∙ ap make (idle_more gates.gates n ∙ ap (λ k. gates.gates ++ replicate k idle_gate) more)

pub returns-clause-values : goal.returns-clause-values
returns-clause-values c =
    let gates : GateList = c.args.gates.now in
    let end : c.loop-g.g ≡ c.args.to = omega (arith, c.len-g.ensures.len) in
    let is : c.loop-g.list ≡ padded gates c.args.to = c.loop-g.invariant ∙ ap (padded gates) end in
    subst (KeepsValues gates) (sym is) (λ word r over. padded_ref_value gates c.args.to word r over)
