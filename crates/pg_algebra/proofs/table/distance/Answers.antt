use Rattle.std.proofs.Common.{arith}
use Rattle.std.proofs.lemmas.Nat.{one_shl, pow_below}
use Rattle.pg_algebra.proofs.table.distance.Goals as goal

pub returns-clause-bound : goal.returns-clause-bound
returns-clause-bound c = rw (one_shl c.args.k 32 (omega arith)) (pow_below c.args.k 6 (omega arith))
