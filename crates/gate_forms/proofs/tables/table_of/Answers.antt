use Rattle.std.proofs.Common.{rules}
use Rattle.gate_forms.specs.Forms.{table_with, one_if}
use Rattle.gate_forms.proofs.tables.table_of.Goals as goal

pub returns : goal.returns
unfolding table_with one_if
returns c = search rules
