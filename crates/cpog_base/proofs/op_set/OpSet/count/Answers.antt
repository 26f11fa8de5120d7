use Rattle.std.proofs.Common.{◌∙◌, ap}
use Rattle.std.specs.FinSet as set
use Rattle.cpog_base.proofs.OpSetLemmas.{count-set_of}
use Rattle.cpog_base.proofs.op_set.OpSet.count.Goals as goal

pub returns : goal.returns
returns c = count-set_of c.self.inside.bits c.self.invariant ∙ ap set.len c.self.view_is
