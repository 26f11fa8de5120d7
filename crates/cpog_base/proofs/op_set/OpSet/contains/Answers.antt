use Rattle.std.proofs.Common.{◌∙◌, ap}
use Rattle.std.specs.FinSet as set
use Rattle.cpog_base.proofs.OpSetLemmas.{read_bit, no_high}
use Rattle.cpog_base.proofs.op_set.OpSet.contains.Goals as goal

pub returns-then-v-lt128 : goal.returns-then-v-lt128
returns-then-v-lt128 c = read_bit c.self.inside.bits c.args.v.0 c.if-v-lt128.true ∙ ap (λ s. set.contains s c.args.v.0) c.self.view_is

pub returns-else-v-lt128 : goal.returns-else-v-lt128
returns-else-v-lt128 c = no_high c.self.inside.bits c.args.v.0 c.if-v-lt128.false ∙ ap (λ s. set.contains s c.args.v.0) c.self.view_is
