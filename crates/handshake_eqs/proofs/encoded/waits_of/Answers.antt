use Rattle.std.proofs.Common.{◌≡◌, ℕ, Bool, is_some, sym, ap, ◌∙◌, arith}
use Rattle.std.specs.FinSet as set
use Rattle.handshake_eqs.specs.Netlists.{unless_zero}
use Rattle.handshake_eqs.proofs.EncodedLemmas.{is_wired, none_below_zero, insert_next, leave_next, all_of_below, first_past}
use Rattle.handshake_eqs.proofs.encoded.waits_of.Goals as goal
use Rattle.handshake_eqs.proofs.encoded.waits_of.Goals.{then-is_some, else-is_some}

pub loop-u-init : goal.loop-u-init
loop-u-init c = λ a. ap (λ s. set.contains s a) c.empty-waits.ensures ∙ none_below_zero (λ u. is_wired c.args.graph.now u c.args.v.0) a

pub loop-u-preserved : goal.loop-u-preserved
loop-u-preserved c =
    let f : ℕ → Bool = λ u. is_wired c.args.graph.now u c.args.v.0 in
    let wired : c.is_some.result ≡ f c.loop-u.u = c.is_some.ensures ∙ ap is_some (c.wire.ensures ∙ ap unless_zero c.arc.ensures) in
    λ a. elim c.if-is_some.branch [
      | then-is_some w ↦ ap (λ s. set.contains s a) (w.waits-is ∙ w.insert.ensures) ∙ insert_next c.loop-u.waits f c.loop-u.u c.loop-u.invariant (sym wired ∙ w.if-is_some.true) a
      | else-is_some w ↦ ap (λ s. set.contains s a) w.waits-is ∙ leave_next c.loop-u.waits f c.loop-u.u c.loop-u.invariant (sym wired ∙ w.if-is_some.false) a
    ]

pub returns : goal.returns
returns c =
    let f : ℕ → Bool = λ u. is_wired c.args.graph.now u c.args.v.0 in
    all_of_below c.loop-u.waits f c.loop-u.u c.loop-u.invariant
    (λ a past. ap (λ r. is_some (unless_zero r)) (first_past c.args.graph.now a c.args.v.0 (omega (arith, c.count-u-end.ensures.square.arcs, c.count-u-end.ensures.count, c.loop-u-test.false, past))))
