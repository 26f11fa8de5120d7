use Rattle.std.proofs.Common.{◌≡◌, length}
use Rattle.report_reader.specs.Lists.{words_after}
use Rattle.report_reader.specs.Operations.{take_arc}
use Rattle.report_reader.proofs.operations.take_arcs.Given as goal

abbrev pub invariant-loop-rest : goal.invariant-loop-rest
invariant-loop-rest l =
    (words_after (take_arc l.names l.scenario.ops) (record { least = record { first = l.least.first; second = l.least.second }; arcs = l.scenario.arcs }) l.rest ≡ words_after (take_arc l.names l.initial.scenario.ops) (record { least = record { first = 0; second = 0 }; arcs = l.initial.scenario.arcs }) l.text)
    × (l.scenario.count ≡ l.initial.scenario.count) × (l.scenario.ops ≡ l.initial.scenario.ops)

abbrev pub decreases-loop-rest : goal.decreases-loop-rest
decreases-loop-rest l = length l.rest
