use Rattle.std.proofs.Common.{◌++◌, [], ◌∷◌, ap, ap₂, sym, ◌∙◌, add-one}
use Rattle.cpog_defs.specs.Codes.{bit, word_bits}
use Rattle.gate_forms.proofs.forms.bits_of.Goals as goal

pub loop-i-preserved : goal.loop-i-preserved
loop-i-preserved c = c.in_ok-push.ensures.items ∙ ap₂ (λ a b. a ++ b ∷ []) c.loop-i.invariant (c.has_bit.ensures ∙ ap (λ w. bit w c.loop-i.i) c.from.ensures) ∙ ap (word_bits c.args.word) (sym (add-one c.loop-i.i))
