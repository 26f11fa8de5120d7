use Rattle.std.proofs.Common.{sym, ◌∙◌, ap}
use Rattle.std.specs.FinSet as set
use Rattle.cpog_base.proofs.OpSetLemmas.{set_of-remove, remove-outside}
use Rattle.cpog_base.proofs.op_set.OpSet.remove.Goals as goal

pub returns-then-v-lt128 : goal.returns-then-v-lt128
returns-then-v-lt128 c = set_of-remove c.self.inside.bits c.args.v.0 c.if-v-lt128.true ∙ ap (λ s. set.remove s c.args.v.0) c.self.view_is

pub returns-else-v-lt128 : goal.returns-else-v-lt128
returns-else-v-lt128 c = sym c.self.view_is ∙ remove-outside c.self.inside.bits c.args.v.0 c.if-v-lt128.false ∙ ap (λ s. set.remove s c.args.v.0) c.self.view_is
