use Rattle.std.proofs.Common.{length, ap, ◌∙◌, arith}
use Rattle.cpog_merge.proofs.TakenLemmas.{taken_below, one_more_taken, one_more_passed}
use Rattle.cpog_merge.proofs.counting.incompatible_set.Goals.{then-is_apart_from+in_ok-push, else-is_apart_from}
use Rattle.cpog_merge.proofs.counting.incompatible_set.Goals as goal

pub is_apart_from-requires-clause-taken : goal.is_apart_from-requires-clause-taken
is_apart_from-requires-clause-taken c =
    taken_below c.columns-columns.result.now c.loop-c.c c.loop-c.taken.items c.deref.result.now c.loop-c.invariant c.deref.ensures.value (omega (arith, ap length c.columns-columns.ensures.columns, c.count-c-end.ensures.count))

pub loop-c-preserved : goal.loop-c-preserved
loop-c-preserved c =
    let columns = c.columns-columns.result.now in
    let old = c.loop-c.taken.items in
    elim c.if-is_apart_from.branch [
      | then-is_apart_from+in_ok-push w ↦
          one_more_taken columns c.loop-c.c old c.deref.result.now c.if-is_apart_from.taken.items c.is_apart_from.result c.loop-c.invariant c.deref.ensures.value c.is_apart_from.ensures w.if-is_apart_from.true
          (ap (λ v. v.items) w.taken-is ∙ w.in_ok-push.ensures.items)
      | else-is_apart_from w ↦
          one_more_passed columns c.loop-c.c old c.deref.result.now c.if-is_apart_from.taken.items c.is_apart_from.result c.loop-c.invariant c.deref.ensures.value c.is_apart_from.ensures w.if-is_apart_from.false
          (ap (λ v. v.items) w.taken-is)
    ]
