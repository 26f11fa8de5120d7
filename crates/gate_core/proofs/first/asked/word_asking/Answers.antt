use Rattle.std.proofs.Common.{◌≡◌, ap, ◌∙◌, sym, arith}
use Rattle.std.proofs.lemmas.Option.{get_or_from_slice_get}
use Rattle.cpog_defs.specs.declared.types.Bit3.TheVariants.{Free}
use Rattle.cpog_defs.specs.Entries.{entry_at}
use Rattle.gate_core.specs.Words.{asks_for}
use Rattle.gate_core.proofs.WordLemmas.{no_word, one_bit_more, word_to_end, same_asked}
use Rattle.gate_core.proofs.first.asked.word_asking.Goals as goal

pub loop-s-init : goal.loop-s-init
loop-s-init c = no_word _

pub loop-s-preserved : goal.loop-s-preserved
loop-s-preserved c =
    let entry : entry_at c.args.column.now c.loop-s.s ≡ c.get.result = get_or_from_slice_get c.args.column.now c.loop-s.s c.get.result Free c.get.ensures in
    let test = ap (asks_for c.args.asked) entry ∙ sym (same_asked c.get.result c.args.asked c.requires) in
    one_bit_more (λ k. asks_for c.args.asked (entry_at c.args.column.now k)) c.loop-s.s c.loop-s.word c.with_bit-word.result c.eq.result c.loop-s.invariant (c.eq.ensures ∙ sym test)
    c.with_bit-word.ensures.same c.with_bit-word.ensures.others c.with_bit-word.ensures.below

pub returns : goal.returns
returns c = word_to_end c.args.asked c.args.column.now c.loop-s.s c.loop-s.word c.loop-s.invariant (omega (arith, c.len-s-end.ensures.len))
