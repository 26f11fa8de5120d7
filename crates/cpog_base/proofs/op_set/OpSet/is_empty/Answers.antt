use Rattle.std.proofs.Common.{sym, ◌∙◌, ap}
use Rattle.std.proofs.lemmas.Bool.{eq-eqb, eqb-true}
use Rattle.cpog_base.specs.OpSet.{set_of}
use Rattle.cpog_base.proofs.OpSetLemmas.{set_of-zero, none-set_of}
use Rattle.cpog_base.proofs.op_set.OpSet.is_empty.Goals as goal

pub returns : goal.returns
returns c = (
  λ t. sym c.self.view_is ∙ ap set_of (eqb-true c.self.inside.bits 0 t) ∙ set_of-zero,
  λ none. eq-eqb c.self.inside.bits 0 (none-set_of c.self.inside.bits c.self.invariant (c.self.view_is ∙ none)),
)
