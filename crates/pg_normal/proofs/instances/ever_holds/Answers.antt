use Rattle.std.proofs.Common.{arith}
use Rattle.pg_normal.proofs.MakingLemmas.{nonzero}
use Rattle.pg_normal.proofs.instances.ever_holds.Goals as goal

pub returns : goal.returns
returns c = nonzero c.args.word (omega arith)
