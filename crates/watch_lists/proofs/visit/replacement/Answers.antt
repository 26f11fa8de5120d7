use Rattle.watch_lists.proofs.ScanLemmas.{both_parts}
use Rattle.watch_lists.proofs.visit.replacement.Goals as goal

pub returns-in-None : goal.returns-in-None
returns-in-None c = both_parts _ _ _ _ c.first_place-start.ensures.high c.in-None.ensures c.first_open-in-None.ensures
