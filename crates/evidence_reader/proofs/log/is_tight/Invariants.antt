use Rattle.std.proofs.Common.{◌≡◌, true, length}
use Rattle.evidence_reader.specs.Spacing as spacing
use Rattle.evidence_reader.proofs.log.is_tight.Given as goal

abbrev pub invariant-loop-rest : goal.invariant-loop-rest
invariant-loop-rest l = spacing.is_tight l.after_blank l.rest ≡ spacing.is_tight true l.line

abbrev pub decreases-loop-rest : goal.decreases-loop-rest
decreases-loop-rest l = length l.rest
