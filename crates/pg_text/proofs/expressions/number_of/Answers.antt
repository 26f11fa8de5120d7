use Rattle.std.proofs.Common.{sym}
use Rattle.pg_text.proofs.NameLemmas.{known}
use Rattle.pg_text.proofs.expressions.number_of.Goals as goal

pub returns-in-Some-clause-operations : goal.returns-in-Some-clause-operations
returns-in-Some-clause-operations c = known c.args.operations.now c.args.name.now c.in-Some.number (sym c.in-Some.ensures)
