use Rattle.std.proofs.Common.{◌≡◌, [], length}
use Rattle.report_reader.specs.Reading.{names_after}
use Rattle.report_reader.proofs.names.names_of.Given as goal

abbrev pub invariant-loop-rest : goal.invariant-loop-rest
invariant-loop-rest l = names_after l.limit l.names l.rest ≡ names_after l.limit [] l.text

abbrev pub decreases-loop-rest : goal.decreases-loop-rest
decreases-loop-rest l = length l.rest
