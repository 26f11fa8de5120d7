use Rattle.std.proofs.Common.{◌<◌, ◌++◌, ◌∷◌, [], length, ap, arith, ◌∙◌, add-one}
use Rattle.std.proofs.lemmas.List.{take_more_set}
use Rattle.cpog_defs.specs.Codes.{bit, word_bits}
use Rattle.gate_core.proofs.gate_list.write_bits.Goals as goal

pub loop-i-preserved : goal.loop-i-preserved
loop-i-preserved c =
    let l : c.loop-i.i < length c.loop-i.out = omega arith in
    take_more_set c.loop-i.out c.loop-i.i _ l
    ∙ rw (c.loop-i.invariant, add-one) (ap (λ b. word_bits c.args.word c.loop-i.i ++ b ∷ []) (c.has_bit.ensures ∙ ap (λ w. bit w c.loop-i.i) c.from.ensures))
