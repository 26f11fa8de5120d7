use Rattle.pg_normal.proofs.WritingLemmas.{depends_from}
use Rattle.pg_normal.proofs.writing.depends_on.Goals as goal

pub returns : goal.returns
returns c = depends_from c.depends.result c.args.table.0 c.args.k c.depends.ensures
