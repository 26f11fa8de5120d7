use Rattle.std.proofs.Common.{◌+◌, take, refl, sym, subst, ◌∙◌, arith}
use Rattle.std.proofs.lemmas.List.{length-take, take_all}
use Rattle.std.proofs.lemmas.List.Elements.{All-take}
use Rattle.cpog_defs.specs.Gates.{AreGatesFrom}
use Rattle.gate_core.specs.First.{Takes, TakesAll}
use Rattle.gate_core.specs.Words.{IsColumnOnCodes}
use Rattle.gate_core.proofs.TakeLemmas.{takes_next, all_taken}
use Rattle.gate_core.proofs.BoundLemmas.{few_in_all}
use Rattle.gate_core.proofs.first.take_all.Goals as goal

pub loop-column-init : goal.loop-column-init
loop-column-init c = record { taken = (refl, c.in_ok-refs.ensures.items); codes = refl }

pub take_column-requires-clause-encodable : goal.take_column-requires-clause-encodable
take_column-requires-clause-encodable c =
    let codes = c.args.signals.now.codes in
    let before = c.args.signals.now.list in
    let below = take c.loop-column.column-index c.args.columns.now in
    let all = all_taken codes before (subst (AreGatesFrom before.inputs) (sym c.requires.no_gate) tt) c.requires.inputs.0 below
    (All-take (IsColumnOnCodes codes before.inputs) c.loop-column.column-index c.args.columns.now c.requires.encodable)
    c.loop-column.signals.list c.loop-column.refs.items c.loop-column.invariant.taken in
    subst (λ cs. IsColumnOnCodes cs c.loop-column.signals.list.inputs c.column-item.result) (sym c.loop-column.invariant.codes)
    (subst (λ n. IsColumnOnCodes codes n c.column-item.result) (sym all.extends.inputs)
    (subst (IsColumnOnCodes codes before.inputs) (sym c.column-item.is) (c.requires.encodable c.loop-column.column-index c.column-item.result c.loop-column-test.true)))

pub take_column-requires-clause-room : goal.take_column-requires-clause-room
take_column-requires-clause-room c =
    let codes = c.args.signals.now.codes in
    let before = c.args.signals.now.list in
    let below = take c.loop-column.column-index c.args.columns.now in
    few_in_all codes before c.requires.few_codes c.requires.no_gate c.requires.inputs.0 c.requires.inputs.1 below
    (All-take (IsColumnOnCodes codes before.inputs) c.loop-column.column-index c.args.columns.now c.requires.encodable)
    (omega (arith, c.requires.few, length-take c.loop-column.column-index c.args.columns.now)) c.loop-column.signals.list c.loop-column.refs.items c.loop-column.invariant.taken

pub loop-column-preserved : goal.loop-column-preserved
loop-column-preserved c =
    let codes = c.args.signals.now.codes in
    let before = c.args.signals.now.list in record {
      taken =
          subst (TakesAll codes before (take (c.loop-column.column-index + 1) c.args.columns.now) c.take_column.new.signals.list) (sym c.in_ok-push.ensures.items)
          (takes_next codes before c.args.columns.now c.loop-column.column-index c.loop-column.signals.list c.loop-column.refs.items c.loop-column.invariant.taken c.loop-column-test.true
          c.column-item.result c.column-item.is c.take_column.new.signals.list c.in_ok-take_column.field-0
          (subst (λ cs. Takes cs c.loop-column.signals.list c.column-item.result c.take_column.new.signals.list
          c.in_ok-take_column.field-0) c.loop-column.invariant.codes c.in_ok-take_column.ensures.takes));
      codes = c.in_ok-take_column.ensures.codes ∙ c.loop-column.invariant.codes;
    }

pub returns : goal.returns
returns c =
    subst (λ columns. TakesAll c.args.signals.now.codes c.args.signals.now.list columns c.loop-column.signals.list c.loop-column.refs.items)
    (take_all c.loop-column.column-index c.args.columns.now c.loop-column-test.false) c.loop-column.invariant.taken
