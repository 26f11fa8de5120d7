use Rattle.std.proofs.Common.{◌∙◌, ap₂}
use Rattle.std.specs.FinSet as set
use Rattle.cpog_base.proofs.OpSetLemmas.{word-union-lt, set_of-union}
use Rattle.cpog_base.proofs.op_set.OpSet.union.Goals as goal

pub returns : goal.returns
returns c = set_of-union c.self.inside.bits c.other.inside.bits ∙ ap₂ set.union c.self.view_is c.other.view_is

pub invariant_of-result : goal.invariant_of-result
invariant_of-result c = word-union-lt c.self.inside.bits c.other.inside.bits c.self.invariant c.other.invariant
