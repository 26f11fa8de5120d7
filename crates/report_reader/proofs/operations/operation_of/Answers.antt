use Rattle.report_reader.proofs.StepLaws.{unknown}
use Rattle.report_reader.proofs.operations.operation_of.Goals as goal

pub returns-then-not-is_free_name-clause-value : goal.returns-then-not-is_free_name-clause-value
returns-then-not-is_free_name-clause-value c = unknown c.args.names.now c.args.word.now c.is_free_name.result c.requires c.is_free_name.ensures c.if-not-is_free_name.true
