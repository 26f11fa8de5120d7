use Rattle.pg_normal.proofs.ChangeLemmas.{match_from, differs_from, keeps_from}
use Rattle.pg_normal.proofs.instances.changes.Goals as goal

pub returns : goal.returns
returns c = match_from c.ever_holds.result _ _ _ c.ever_holds.ensures
    (differs_from c.args.table.0 c.args.k c.args.among.0 c.fix.result.0 c.fix-2.result.0 c.fix.ensures c.fix-2.ensures)
    (keeps_from c.args.table.0 c.args.k c.args.among.0 c.fix.result.0 c.fix-2.result.0 c.fix.ensures c.fix-2.ensures)
