use Rattle.cpog_outside.proofs.ToldLemmas.{Consumes-trans, LosesFront-from_Consumes}
use Rattle.cpog_outside.proofs.reading.read_by_pieces.Goals as goal

pub returns-then-count-limit-clause-left : goal.returns-then-count-limit-clause-left
returns-then-count-limit-clause-left g c = LosesFront-from_Consumes _ _ _ (Consumes-trans _ _ _ _ _ c.turns.invariant.read c.in-Ok.ensures.bytes.0)
