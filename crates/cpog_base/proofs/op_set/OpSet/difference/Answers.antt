use Rattle.std.proofs.Common.{◌∙◌, ap₂}
use Rattle.std.specs.FinSet as set
use Rattle.cpog_base.proofs.OpSetLemmas.{set_of-difference}
use Rattle.cpog_base.proofs.op_set.OpSet.difference.Goals as goal

pub returns : goal.returns
returns c = set_of-difference c.self.inside.bits c.other.inside.bits c.other.invariant ∙ ap₂ set.difference c.self.view_is c.other.view_is
