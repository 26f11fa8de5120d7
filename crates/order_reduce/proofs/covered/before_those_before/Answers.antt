use Rattle.std.proofs.Common.{◌≡◌, ◌∙◌, ap, sym}
use Rattle.std.specs.Ordering.{nat_cmp}
use Rattle.std.specs.FinSet as set
use Rattle.cpog_defs.specs.Orders.{is_before}
use Rattle.order_reduce.proofs.PairLemmas.{far-joined, far-kept}
use Rattle.order_reduce.proofs.covered.before_those_before.Goals as goal
use Rattle.order_reduce.proofs.covered.before_those_before.Goals.{then-contains, else-contains}

pub loop-z-init : goal.loop-z-init
loop-z-init c = λ u. ap (λ s. set.contains s u) c.empty-earlier.ensures ∙ set.contains-empty nat_cmp u

pub loop-z-preserved : goal.loop-z-preserved
loop-z-preserved c =
    let o = c.args.order.now in
    let v = c.args.v.0 in
    let z = c.loop-z.z in
    let same : c.contains.result ≡ is_before o z v = c.contains.ensures ∙ ap (λ s. set.contains s z) c.before-before.ensures in
    elim c.if-contains.branch [
      | then-contains w ↦ far-joined o v z c.loop-z.earlier w.before-then-contains.result c.if-contains.earlier (w.earlier-is ∙ w.union-earlier.ensures) w.before-then-contains.ensures (sym same ∙ w.if-contains.true) c.loop-z.invariant
      | else-contains w ↦ rw w.earlier-is (far-kept o v z c.loop-z.earlier (sym same ∙ w.if-contains.false) c.loop-z.invariant)
    ]
