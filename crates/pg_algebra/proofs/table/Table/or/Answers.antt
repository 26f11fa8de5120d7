use Rattle.pg_algebra.proofs.TableLemmas.{bit-or}
use Rattle.pg_algebra.proofs.table.Table.or.Goals as goal

pub returns : goal.returns
returns c n h = bit-or _ _ n
