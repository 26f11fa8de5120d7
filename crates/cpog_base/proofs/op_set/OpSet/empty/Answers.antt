use Rattle.cpog_base.proofs.OpSetLemmas.{set_of-zero}
use Rattle.cpog_base.proofs.op_set.OpSet.empty.Goals as goal

pub returns : goal.returns
returns c = set_of-zero
