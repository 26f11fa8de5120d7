use Rattle.std.proofs.Common.{◌≡◌, ℕ, length, arith}
use Rattle.report_reader.proofs.CheckedLaws.{ops_hold}
use Rattle.report_reader.proofs.FinalLaws.{told}
use Rattle.report_reader.proofs.whole.checked_ops.Goals as goal

pub returns-clause-count : goal.returns-clause-count
returns-clause-count c = told (λ refs. (refs.items, c.ops_of.new.cursor)) c.ops_of.result _ c.ops_of.ensures (λ refs. length refs.items ≡ length c.args.names.now) (λ refs e. ops_hold c.args.inputs c.args.gates c.args.names.now _ _ refs.items (omega (arith, c.requires, c.ranges.inputs.fits)) e)
