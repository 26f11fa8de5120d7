use Rattle.std.proofs.Common.{◌≡◌, ◌≤◌, length, arith}
use Rattle.std.proofs.lemmas.Grind.{common_steps}
use Rattle.report_reader.proofs.NameSteps.{place_within}
use Rattle.report_reader.proofs.names.next_name.Goals as goal

pub split_at-requires : goal.split_at-requires
split_at-requires c = rw c.first_place-end.ensures (place_within c.args.more.now)
