use Rattle.std.proofs.Common.{arith}
use Rattle.report_reader.proofs.StepLaws.{short_code}
use Rattle.report_reader.proofs.codes.code_of.Goals as goal

pub returns-then-text-bound-clause-value : goal.returns-then-text-bound-clause-value
returns-then-text-bound-clause-value c = short_code c.args.bits c.args.text.now (omega (arith, c.from-bound.ensures, c.if-text-bound.true))
