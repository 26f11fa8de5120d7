use Rattle.cpog_base.proofs.ColumnLemmas.{no_entries}
use Rattle.cpog_base.proofs.column.Column.new.Goals as goal

pub returns : goal.returns
returns c = no_entries c.args.n
