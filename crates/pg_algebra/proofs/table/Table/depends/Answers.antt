use Rattle.std.proofs.Common.{arith, ap, ◌∙◌}
use Rattle.std.specs.Prelude.{not}
use Rattle.pg_algebra.proofs.ParamLemmas.{dependence}
use Rattle.pg_algebra.proofs.table.Table.depends.Goals as goal

pub returns : goal.returns
returns c = rw c.distance.ensures.weight
    (dependence c.args.k c.not-zeros.result.0 c.requires (λ n h. c.not-zeros.ensures n h ∙ ap not (c.of_param.ensures n h)) (omega arith) c.args.self.now.0 (omega arith))
