use Rattle.std.proofs.Common.{arith}
use Rattle.std.proofs.lemmas.Grind.{common_steps}
use Rattle.line_text.proofs.SplittingLemmas.{first_of_many, first_of_one}
use Rattle.line_rows.proofs.line.next_line.Goals as goal

pub returns-then-end-bytes-clause-lines : goal.returns-then-end-bytes-clause-lines
returns-then-end-bytes-clause-lines c = grind (arith, common_steps, first_of_many c.args.bytes.now)

pub returns-else-end-bytes-clause-lines : goal.returns-else-end-bytes-clause-lines
returns-else-end-bytes-clause-lines c = grind (arith, common_steps, first_of_one c.args.bytes.now)
