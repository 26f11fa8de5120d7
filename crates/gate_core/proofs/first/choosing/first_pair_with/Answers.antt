use Rattle.std.proofs.Common.{slice_index, subst, refl, arith, inl, inr}
use Rattle.std.proofs.lemmas.Bool.{cases_eq}
use Rattle.gate_core.specs.Words.{AreApart}
use Rattle.gate_core.proofs.PairLemmas.{apart_from, from_apart}
use Rattle.gate_core.proofs.first.choosing.first_pair_with.Goals as goal

pub returns-then-ones-zeros-eq0 : goal.returns-then-ones-zeros-eq0
returns-then-ones-zeros-eq0 c = record {
  is = refl;
  lower = omega arith;
  in_range = c.loop-k-test.true;
  apart = apart_from c.args.asked.ones c.args.asked.zeros _ _ c.rows_of-ones.result c.rows_of-zeros.result c.rows_of-ones.ensures c.rows_of-zeros.ensures c.if-ones-zeros-eq0.true;
  first = c.loop-k.invariant;
  table = c.rows_of-ones.ensures;
}

pub loop-k-preserved : goal.loop-k-preserved
loop-k-preserved c k lower l = elim (cases_eq k c.loop-k.k) [
  | inl same ↦ λ apart. c.if-ones-zeros-eq0.false (from_apart c.args.asked.ones c.args.asked.zeros _ _ c.rows_of-ones.result c.rows_of-zeros.result c.rows_of-ones.ensures c.rows_of-zeros.ensures
      (subst (λ i. AreApart c.args.asked.ones c.args.asked.zeros (slice_index c.args.inputs.now c.args.j) (slice_index c.args.inputs.now i)) same apart))
  | inr other ↦ c.loop-k.invariant k lower (omega arith)
]
