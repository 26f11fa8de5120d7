use Rattle.std.proofs.Common.{◌≡◌, ℕ, ◌≤◌, List, length, take, drop, sym, ap, ◌∙◌, arith}
use Rattle.report_reader.specs.Lists.{words_after}
use Rattle.report_reader.specs.Operations.{take_member}
use Rattle.report_reader.proofs.NameSteps.{place_within}
use Rattle.report_reader.proofs.ListLaws.{list_stops, list_goes_on}
use Rattle.report_reader.proofs.operations.next_member.Goals as goal

pub split_at-requires : goal.split_at-requires
split_at-requires c = rw c.first_place-end.ensures (place_within c.args.more.now)

pub returns-in-None-clause-words : goal.returns-in-None-clause-words
returns-in-None-clause-words c =
    let names = c.args.names.now in
    let word = c.split_at.ensures.front ∙ ap (λ (k : ℕ). take k c.args.more.now) c.first_place-end.ensures in
    list_stops (take_member names) (record { least = c.args.least; ops = c.args.scenario.now.ops }) c.args.more.now
    (ap (take_member names (record { least = c.args.least; ops = c.args.scenario.now.ops })) (sym word) ∙ c.in-None.ensures.member)

pub returns-in-Some-clause-words : goal.returns-in-Some-clause-words
returns-in-Some-clause-words c =
    let names = c.args.names.now in
    let word = c.split_at.ensures.front ∙ ap (λ (k : ℕ). take k c.args.more.now) c.first_place-end.ensures in
    let rest = c.split_at.ensures.back ∙ ap (λ (k : ℕ). drop k c.args.more.now) c.first_place-end.ensures in
    list_goes_on (take_member names) (record { least = c.args.least; ops = c.args.scenario.now.ops }) c.args.more.now (record { least = c.in-Some.next; ops = c.take_member.new.scenario.ops })
    (ap (take_member names (record { least = c.args.least; ops = c.args.scenario.now.ops })) (sym word) ∙ c.in-Some.ensures.member)
    ∙ ap (words_after (take_member names) (record { least = c.in-Some.next; ops = c.take_member.new.scenario.ops })) (sym rest)
