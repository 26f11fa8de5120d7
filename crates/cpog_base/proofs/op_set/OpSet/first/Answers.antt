use Rattle.std.proofs.Common.{sym, ◌∙◌, ap, subst, arith}
use Rattle.std.specs.Int.{trailing_zeros, w128}
use Rattle.cpog_base.specs.OpSet.{set_of}
use Rattle.cpog_base.specs.Members.{IsFirst}
use Rattle.cpog_base.proofs.OpSetLemmas.{set_of-zero, first-set_of}
use Rattle.cpog_base.proofs.op_set.OpSet.first.Goals as goal

pub returns-then-self-eq0 : goal.returns-then-self-eq0
returns-then-self-eq0 c = sym c.self.view_is ∙ ap set_of c.if-self-eq0.true ∙ set_of-zero

pub returns : goal.returns
returns c = subst (λ s. IsFirst s (trailing_zeros w128 c.self.inside.bits)) c.self.view_is (first-set_of c.self.inside.bits (omega (arith, c.if-self-eq0.false)) c.self.invariant)
