use Rattle.std.proofs.Common.{Bool, ℕ, false, ap, sym, ◌∙◌, arith}
use Rattle.std.proofs.lemmas.List.{get_or_past}
use Rattle.std.specs.FinSet as set
use Rattle.cpog_defs.specs.declared.types.Ref.TheVariants.{Const}
use Rattle.cpog_defs.specs.declared.types.Place.TheVariants.{Op}
use Rattle.cpog_defs.specs.Gates.{ref_value}
use Rattle.cpog_defs.specs.Graphs.{keeps}
use Rattle.handshake_eqs.proofs.EncodedLemmas.{none_below_zero, insert_next, leave_next, all_of_below}
use Rattle.report_judge.proofs.fitting.kept_ops.Goals as goal
use Rattle.report_judge.proofs.fitting.kept_ops.Goals.{then-value_of, else-value_of}

pub loop-v-init : goal.loop-v-init
loop-v-init c = λ w. ap (λ s. set.contains s w) c.empty-kept.ensures ∙ none_below_zero (keeps c.args.graph.now c.args.values.now) w

pub value_of-requires : goal.value_of-requires
value_of-requires c = rw c.op.ensures (c.requires.over (Op (record { 0 = c.loop-v.v })) (omega (arith, c.loop-v-test.true, c.count-v-end.ensures.count)))

pub loop-v-preserved : goal.loop-v-preserved
loop-v-preserved c =
    let f : ℕ → Bool = keeps c.args.graph.now c.args.values.now in
    let value = c.value_of.ensures ∙ ap (ref_value c.args.values.now) c.op.ensures in
    λ w. elim c.if-value_of.branch [
      | then-value_of b ↦ ap (λ s. set.contains s w) (b.kept-is ∙ b.insert.ensures) ∙ insert_next c.loop-v.kept f c.loop-v.v c.loop-v.invariant (sym value ∙ b.if-value_of.true) w
      | else-value_of b ↦ ap (λ s. set.contains s w) b.kept-is ∙ leave_next c.loop-v.kept f c.loop-v.v c.loop-v.invariant (sym value ∙ b.if-value_of.false) w
    ]

pub returns : goal.returns
returns c =
    all_of_below c.loop-v.kept (keeps c.args.graph.now c.args.values.now) c.loop-v.v c.loop-v.invariant
    (λ w past. ap (ref_value c.args.values.now) (get_or_past c.args.graph.now.ops w (Const false) (omega (arith, c.count-v-end.ensures.count, c.loop-v-test.false, past))))
