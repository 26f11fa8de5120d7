use Rattle.std.proofs.Common.{arith}
use Rattle.std.specs.Fmt.{decimal}
use Rattle.line_rows.specs.Words.{number_in}
use Rattle.line_rows.proofs.Exact.{recovered, number_exact}
use Rattle.line_rows.proofs.words.number_of.Goals as goal

pub returns-clause-value : goal.returns-clause-value
returns-clause-value c = recovered _ decimal (number_in c.args.bound) c.args.word.now _ (number_exact c.args.bound (omega arith)) c.number_by_digits.ensures
