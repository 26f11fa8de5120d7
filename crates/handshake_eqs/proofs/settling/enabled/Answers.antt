use Rattle.std.proofs.Common.{Bool, false, ℕ, sym, ap, ◌∙◌, arith}
use Rattle.std.proofs.lemmas.List.{get_or_past}
use Rattle.std.specs.FinSet as set
use Rattle.cpog_defs.specs.declared.types.Ref.TheVariants.{Const}
use Rattle.cpog_defs.specs.Gates.{ref_value}
use Rattle.handshake_eqs.specs.Agreement.{request_enabled}
use Rattle.handshake_eqs.proofs.EncodedLemmas.{none_below_zero, insert_next, leave_next, all_of_below}
use Rattle.handshake_eqs.proofs.SettleLemmas.{with_false}
use Rattle.handshake_eqs.proofs.settling.enabled.Goals as goal
use Rattle.handshake_eqs.proofs.settling.enabled.Goals.{then-is_enabled, else-is_enabled}

pub loop-v-init : goal.loop-v-init
loop-v-init c = λ a. ap (λ s. set.contains s a) c.empty-enabled.ensures ∙ none_below_zero (request_enabled c.args.netlist.now c.args.values.now c.args.acks.now) a

pub loop-v-preserved : goal.loop-v-preserved
loop-v-preserved c =
    let f : ℕ → Bool = request_enabled c.args.netlist.now c.args.values.now c.args.acks.now in
    λ a. elim c.if-is_enabled.branch [
      | then-is_enabled w ↦ ap (λ s. set.contains s a) (w.enabled-is ∙ w.insert.ensures)
          ∙ insert_next c.loop-v.enabled f c.loop-v.v c.loop-v.invariant (sym c.is_enabled.ensures
          ∙ w.if-is_enabled.true) a
      | else-is_enabled w ↦ ap (λ s. set.contains s a) w.enabled-is ∙ leave_next c.loop-v.enabled f c.loop-v.v c.loop-v.invariant (sym c.is_enabled.ensures ∙ w.if-is_enabled.false) a
    ]

pub returns : goal.returns
returns c =
    let n = c.args.netlist.now in
    let f : ℕ → Bool = request_enabled n c.args.values.now c.args.acks.now in
    all_of_below c.loop-v.enabled f c.loop-v.v c.loop-v.invariant
    (λ a past. sym (with_false _ _ (ap (ref_value c.args.values.now) (get_or_past n.conditions a (Const false) (omega (arith, c.count-v-end.ensures.count, c.loop-v-test.false, past))))))
