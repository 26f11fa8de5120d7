use Rattle.std.proofs.Common.{inl, inr, arith}
use Rattle.std.proofs.lemmas.List.{get_or_past}
use Rattle.std.proofs.lemmas.Bool.{cases_lt}
use Rattle.pg_normal.proofs.row.clear_words.Goals as goal

pub returns : goal.returns
returns c k = elim (cases_lt k c.places.i) [
  | inl below ↦ c.places.invariant k below
  | inr past ↦ get_or_past c.places.words k 0 (omega (arith, past, c.places-test.false, c.places.auto.words))
]
