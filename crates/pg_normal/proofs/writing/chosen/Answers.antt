use Rattle.std.proofs.Common.{arith}
use Rattle.pg_normal.proofs.WritingLemmas.{chosen_all}
use Rattle.pg_normal.proofs.writing.chosen.Goals as goal

pub returns : goal.returns
returns c = chosen_all c.args.table.0 c.valuations.n c.valuations.numbers.items (omega arith) c.valuations.invariant
