use Rattle.gate_core.proofs.PairLemmas.{row-lt, is_row}
use Rattle.gate_core.proofs.first.choosing.row.Goals as goal

pub returns-else-word-eq0-clause-below : goal.returns-else-word-eq0-clause-below
returns-else-word-eq0-clause-below c = row-lt c.args.number c.requires

pub returns-else-word-eq0-clause-there : goal.returns-else-word-eq0-clause-there
returns-else-word-eq0-clause-there c = is_row c.args.number c.args.word c.requires c.ranges.word.fits c.if-word-eq0.false
