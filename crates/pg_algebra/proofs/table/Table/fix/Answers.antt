use Rattle.std.proofs.Common.{arith, ap, ◌∙◌}
use Rattle.std.specs.Prelude.{not}
use Rattle.pg_algebra.proofs.ParamLemmas.{fixed_to_one, fixed_to_zero}
use Rattle.pg_algebra.proofs.table.Table.fix.Goals as goal

pub returns-then-set : goal.returns-then-set
returns-then-set c n h = rw (c.distance.ensures.weight, c.if-set.true) (fixed_to_one c.args.k c.of_param.result.0 c.requires (omega arith) c.of_param.ensures c.args.self.now.0 n h)

pub returns-else-set : goal.returns-else-set
returns-else-set c n h = rw (c.distance-else-set.ensures.weight, c.if-set.false) (fixed_to_zero c.args.k c.not.result.0 c.requires (λ m l. c.not.ensures m l ∙ ap not (c.of_param-else-set.ensures m l)) c.args.self.now.0 n h)
