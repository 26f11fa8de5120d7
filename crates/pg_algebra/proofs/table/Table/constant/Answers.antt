use Rattle.std.proofs.Common.{◌∙◌, sym}
use Rattle.pg_algebra.proofs.TableLemmas.{all_ones}
use Rattle.pg_algebra.proofs.table.Table.constant.Goals as goal

pub returns-then-value : goal.returns-then-value
returns-then-value c n h = all_ones n h ∙ sym c.if-value.true
