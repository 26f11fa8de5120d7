use Rattle.std.specs.Prelude.{◌==◌}
use Rattle.std.proofs.Common.{◌∙◌}
use Rattle.cpog_defs.specs.Codes.{bit}
use Rattle.pg_normal.proofs.ListingLemmas.{and_one}
use Rattle.pg_normal.proofs.binding.bind.Goals as goal

pub returns-then-one-clause-values : goal.returns-then-one-clause-values
returns-then-one-clause-values c k = c.with_param-values.ensures.bits k ∙ and_one (bit c.args.binding.values k) (c.args.place == k) c.args.one c.if-one.true
