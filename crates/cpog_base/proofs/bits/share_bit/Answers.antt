use Rattle.std.proofs.Common.{arith}
use Rattle.cpog_base.proofs.BitLemmas.{share_tells}
use Rattle.cpog_base.proofs.bits.share_bit.Goals as goal

pub returns : goal.returns
returns c = share_tells c.args.word c.args.other (omega arith)
