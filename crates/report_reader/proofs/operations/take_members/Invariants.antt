use Rattle.std.proofs.Common.{◌≡◌, length}
use Rattle.report_reader.specs.Lists.{words_after}
use Rattle.report_reader.specs.Operations.{take_member}
use Rattle.report_reader.proofs.operations.take_members.Given as goal

abbrev pub invariant-loop-rest : goal.invariant-loop-rest
invariant-loop-rest l =
    (words_after (take_member l.names) (record { least = l.least; ops = l.scenario.ops }) l.rest ≡ words_after (take_member l.names) (record { least = 0; ops = l.initial.scenario.ops }) l.text)
    × (l.scenario.count ≡ l.initial.scenario.count) × (l.scenario.arcs ≡ l.initial.scenario.arcs)

abbrev pub decreases-loop-rest : goal.decreases-loop-rest
decreases-loop-rest l = length l.rest
