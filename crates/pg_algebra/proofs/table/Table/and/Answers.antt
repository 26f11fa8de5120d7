use Rattle.pg_algebra.proofs.TableLemmas.{bit-and}
use Rattle.pg_algebra.proofs.table.Table.and.Goals as goal

pub returns : goal.returns
returns c n h = bit-and _ _ n
