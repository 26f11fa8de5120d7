use Rattle.std.proofs.Common.{sym, subst}
use Rattle.std.proofs.lemmas.Bool.{eq-eqb, eqb-true}
use Rattle.cpog_base.specs.Pattern.{HasGivenBits}
use Rattle.cpog_base.proofs.PatternLemmas.{bits_agree, agree_bits}
use Rattle.cpog_base.proofs.pattern.Pattern.agrees.Goals as goal

pub returns : goal.returns
returns c =
    let p = c.self.inside in (
      λ t. subst (λ x. HasGivenBits x c.args.word) c.self.view_is (bits_agree p.len p.mask p.value c.args.word c.self.invariant (eqb-true _ _ t)),
      λ all. eq-eqb _ _ (agree_bits p.len p.mask p.value c.args.word c.self.invariant (subst (λ x. HasGivenBits x c.args.word) (sym c.self.view_is) all)),
    )
