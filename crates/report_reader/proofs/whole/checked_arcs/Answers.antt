use Rattle.std.proofs.Common.{◌≡◌, ℕ, length, arith}
use Rattle.std.specs.List.{AllByRecursion}
use Rattle.report_reader.specs.Entries.{EndsFit}
use Rattle.report_reader.proofs.CheckedLaws.{arcs_hold}
use Rattle.report_reader.proofs.FinalLaws.{told}
use Rattle.report_reader.proofs.whole.checked_arcs.Goals as goal

pub returns-clause-ends : goal.returns-clause-ends
returns-clause-ends c = told (λ x. ((x.0.items, x.1), c.arcs_of.new.cursor)) c.arcs_of.result _ c.arcs_of.ensures (λ x. AllByRecursion (EndsFit (length c.args.names.now)) x.0.items) (λ x e. arcs_hold c.args.inputs c.args.gates c.args.names.now _ _ x.0.items x.1 c.requires.next (omega (arith, c.requires.small, c.ranges.inputs.fits)) e)
