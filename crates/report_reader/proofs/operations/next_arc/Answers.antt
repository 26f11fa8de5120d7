use Rattle.std.proofs.Common.{◌≡◌, ℕ, ◌≤◌, List, length, take, drop, sym, ap, ◌∙◌, arith}
use Rattle.report_reader.specs.Lists.{words_after}
use Rattle.report_reader.specs.Operations.{Written, take_arc}
use Rattle.report_reader.proofs.NameSteps.{place_within}
use Rattle.report_reader.proofs.ListLaws.{list_stops, list_goes_on}
use Rattle.report_reader.proofs.operations.next_arc.Goals as goal

pub split_at-requires : goal.split_at-requires
split_at-requires c = rw c.first_place-end.ensures (place_within c.args.more.now)

pub returns-in-Ok-None-clause-words : goal.returns-in-Ok-None-clause-words
returns-in-Ok-None-clause-words c =
    let step = take_arc c.args.names.now c.args.scenario.now.ops in
    let state : Written = record { least = record { first = c.args.least.first; second = c.args.least.second }; arcs = c.args.scenario.now.arcs } in
    let word = c.split_at.ensures.front ∙ ap (λ (k : ℕ). take k c.args.more.now) c.first_place-end.ensures in
    list_stops step state c.args.more.now (ap (step state) (sym word) ∙ (rw c.in-Ok-None.field-0-is at c.in-Ok-None.ensures.arc))

pub returns-in-Ok-Some-clause-words : goal.returns-in-Ok-Some-clause-words
returns-in-Ok-Some-clause-words c =
    let step = take_arc c.args.names.now c.args.scenario.now.ops in
    let state : Written = record { least = record { first = c.args.least.first; second = c.args.least.second }; arcs = c.args.scenario.now.arcs } in
    let next : Written = record { least = record { first = c.in-Ok-Some.next.first; second = c.in-Ok-Some.next.second }; arcs = c.take_arc.new.scenario.arcs } in
    let word = c.split_at.ensures.front ∙ ap (λ (k : ℕ). take k c.args.more.now) c.first_place-end.ensures in
    let rest = c.split_at.ensures.back ∙ ap (λ (k : ℕ). drop k c.args.more.now) c.first_place-end.ensures in
    list_goes_on step state c.args.more.now next (ap (step state) (sym word) ∙ (rw c.in-Ok-Some.field-0-is at c.in-Ok-Some.ensures.arc)) ∙ ap (words_after step next) (sym rest)
