use Rattle.std.proofs.Common.{[], refl, sym, ap, subst, ◌∙◌, arith}
use Rattle.cpog_defs.specs.Gates.{IsGateList, GateList}
use Rattle.gate_core.specs.Serving.{ReferencesServe}
use Rattle.gate_core.proofs.TakeLemmas.{encodable, from_start, whole_taken, whole_serves}
use Rattle.gate_core.proofs.BoundLemmas.{whole_bounded, few_in_all}
use Rattle.gate_core.proofs.first.first_encode.Goals as goal

pub gate_list-requires : goal.gate_list-requires
gate_list-requires c =
    let columns = c.args.classes.now in
    let start : GateList = record { inputs = c.args.bits; gates = [] } in
    let t = from_start c.args.codes.now c.args.bits columns c.in_ok-signals.signals c.in_ok-signals.ensures c.take_all.new.signals.list c.in_ok-refs.refs.items c.in_ok-refs.ensures in
    let all = whole_taken c.args.codes.now c.args.bits c.requires.some_bit c.requires.few c.requires.codes columns c.requires.classes c.take_all.new.signals.list c.in_ok-refs.refs.items t in
    let few = few_in_all c.args.codes.now start c.requires.few refl c.requires.some_bit c.requires.few_bits columns
    (encodable c.args.codes.now c.args.bits c.requires.few c.requires.codes columns c.requires.classes) c.requires.few_classes c.take_all.new.signals.list c.in_ok-refs.refs.items t in
    omega (arith, few, all.extends.inputs, c.requires.few_bits)

pub returns-clause-gates : goal.returns-clause-gates
returns-clause-gates c =
    let columns = c.args.classes.now in
    let t = from_start c.args.codes.now c.args.bits columns c.in_ok-signals.signals c.in_ok-signals.ensures c.take_all.new.signals.list c.in_ok-refs.refs.items c.in_ok-refs.ensures in
    let all = whole_taken c.args.codes.now c.args.bits c.requires.some_bit c.requires.few c.requires.codes columns c.requires.classes c.take_all.new.signals.list c.in_ok-refs.refs.items t in
    let e = c.in_ok-gate_list.ensures in
    (subst IsGateList (sym e) all.gates, ap (λ (g : GateList). g.inputs) e ∙ all.extends.inputs)

pub returns-clause-refs : goal.returns-clause-refs
returns-clause-refs c =
    let columns = c.args.classes.now in
    let t = from_start c.args.codes.now c.args.bits columns c.in_ok-signals.signals c.in_ok-signals.ensures c.take_all.new.signals.list c.in_ok-refs.refs.items c.in_ok-refs.ensures in
    let all = whole_taken c.args.codes.now c.args.bits c.requires.some_bit c.requires.few c.requires.codes columns c.requires.classes c.take_all.new.signals.list c.in_ok-refs.refs.items t in
    subst (λ codes. ReferencesServe columns codes c.in_ok-gate_list.field-0 c.in_ok-refs.refs.items) (sym c.in_ok-from_slice.ensures.items)
    (subst (λ g. ReferencesServe columns c.args.codes.now g c.in_ok-refs.refs.items) (sym c.in_ok-gate_list.ensures)
    (whole_serves c.args.codes.now (record { inputs = c.args.bits; gates = [] }) columns c.take_all.new.signals.list c.in_ok-refs.refs.items all))

pub returns-clause-few_gates : goal.returns-clause-few_gates
returns-clause-few_gates c =
    λ first. whole_bounded c.args.codes.now (record { inputs = c.args.bits; gates = [] }) c.requires.few refl c.requires.some_bit c.requires.few_bits c.args.classes.now
    (encodable c.args.codes.now c.args.bits c.requires.few c.requires.codes c.args.classes.now c.requires.classes) _ _ first.refs
