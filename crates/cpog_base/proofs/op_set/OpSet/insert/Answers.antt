use Rattle.std.proofs.Common.{◌∙◌, ap}
use Rattle.std.specs.FinSet as set
use Rattle.cpog_base.proofs.OpSetLemmas.{set_of-insert, word-insert-lt}
use Rattle.cpog_base.proofs.op_set.OpSet.insert.Goals as goal

pub invariant_of-self : goal.invariant_of-self
invariant_of-self c = word-insert-lt c.self.inside.bits c.args.v.0 c.requires c.self.invariant

pub returns : goal.returns
returns c = set_of-insert c.self.inside.bits c.args.v.0 c.requires ∙ ap (λ s. set.insert s c.args.v.0) c.self.view_is
