use Rattle.std.proofs.Common.{ℕ, ◌-◌, ◌+◌, Bool, List, sym, ap, ◌∙◌, arith}
use Rattle.module_reader.specs.Lists.{steps, with_mark, arc_mark}
use Rattle.module_reader.proofs.ListLaws.{steps_on}
use Rattle.module_reader.proofs.wires.arcs_from.Goals as goal

pub loop-v-preserved : goal.loop-v-preserved
loop-v-preserved c =
    let f : ℕ → List Bool × List ℕ → List Bool × List ℕ = λ v s. with_mark s.0 (arc_mark c.args.u v s.1) in
    let left : ℕ = c.args.count - (c.loop-v.v + 1) in
    ap (λ (xs : List Bool). steps f left (c.loop-v.v + 1) (pair xs c.in_ok-mark.more.now)) c.in_ok-push.ensures.items
    ∙ ap (λ (x : Bool × List ℕ). steps f left (c.loop-v.v + 1) (with_mark c.loop-v.marks.items x)) c.in_ok-mark.ensures
    ∙ sym (steps_on f (c.args.count - c.loop-v.v) left c.loop-v.v (c.loop-v.marks.items, c.loop-v.rest.now) (omega (arith, c.loop-v-test.true)))
    ∙ c.loop-v.invariant
  where
    pair : List Bool → List ℕ → List Bool × List ℕ
    pair xs rest = (xs, rest)
