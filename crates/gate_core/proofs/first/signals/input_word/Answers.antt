use Rattle.std.proofs.Common.{ap, ◌∙◌}
use Rattle.gate_core.specs.First.{code_at}
use Rattle.cpog_defs.specs.Codes.{bit}
use Rattle.gate_core.proofs.WordLemmas.{no_word, one_bit_more}
use Rattle.gate_core.proofs.first.signals.input_word.Goals as goal

pub loop-s-init : goal.loop-s-init
loop-s-init c = no_word _

pub loop-s-preserved : goal.loop-s-preserved
loop-s-preserved c =
    one_bit_more (λ k. bit (code_at c.args.codes.now k) c.args.i) c.loop-s.s c.loop-s.word c.with_bit-word.result
    c.has_bit.result c.loop-s.invariant (c.has_bit.ensures ∙ ap (λ w. bit w c.args.i) c.from.ensures)
    c.with_bit-word.ensures.same c.with_bit-word.ensures.others c.with_bit-word.ensures.below
