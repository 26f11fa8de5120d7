use Rattle.std.proofs.Common.{◌∙◌, ap₂}
use Rattle.std.specs.FinSet as set
use Rattle.cpog_base.proofs.OpSetLemmas.{set_of-subset}
use Rattle.cpog_base.proofs.op_set.OpSet.subset.Goals as goal

pub returns : goal.returns
returns c = set_of-subset c.self.inside.bits c.other.inside.bits c.self.invariant c.other.invariant ∙ ap₂ set.is_subset c.self.view_is c.other.view_is
