use Rattle.std.proofs.Common.{ℕ, ◌<◌}
use Rattle.report_reader.specs.Columns.{columns_of}
use Rattle.report_reader.proofs.CheckedLaws.{count_holds}
use Rattle.report_reader.proofs.FinalLaws.{told}
use Rattle.report_reader.proofs.whole.checked_scenarios.Goals as goal

pub returns-clause-small : goal.returns-clause-small
returns-clause-small c = told (λ x. ((columns_of x.0, x.1), c.scenarios_of.new.cursor)) c.scenarios_of.result _ c.scenarios_of.ensures (λ x. x.1 < 65536) (λ x e. count_holds c.args.bits c.args.names.now _ _ (columns_of x.0) x.1 c.requires.next e)
