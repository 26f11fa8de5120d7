use Rattle.std.proofs.Common.{◌≤◌, length, is_some, sym, ap, ◌∙◌, inl, inr, arith}
use Rattle.std.proofs.lemmas.Bool.{cases_lt}
use Rattle.std.proofs.lemmas.List.{get_or_past}
use Rattle.std.specs.Ordering.{nat_cmp}
use Rattle.std.specs.FinSet as set
use Rattle.handshake_eqs.specs.Netlists.{unless_zero}
use Rattle.handshake_eqs.proofs.EncodedLemmas.{second_past}
use Rattle.handshake_eqs.proofs.encoded.waits.Goals as goal

pub returns-clause-each : goal.returns-clause-each
returns-clause-each c = λ u v. elim (cases_lt v c.loop-v.v) [
  | inl l ↦ c.loop-v.invariant.each v l u
  | inr g ↦
      let sets = c.loop-v.sets.items in
      let square = c.count-count.ensures.square in
      let past : length c.args.graph.now.ops ≤ v = omega (arith, c.count-count.ensures.count, c.loop-v-test.false, g) in
      ap (λ s. set.contains s u) (get_or_past sets v set.empty (omega (arith, c.loop-v.invariant.len, g)))
      ∙ set.contains-empty nat_cmp u
      ∙ sym (ap (λ r. is_some (unless_zero r)) (second_past c.args.graph.now (length c.args.graph.now.ops) u v square.arcs square.rows past))
]
