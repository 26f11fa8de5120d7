use Rattle.std.proofs.Common.{◌≡◌, slice_index, ap, ◌∙◌, sym}
use Rattle.std.proofs.lemmas.Option.{get_or_from_slice_get}
use Rattle.cpog_defs.specs.declared.types.Bit3.TheVariants.{Free}
use Rattle.cpog_defs.specs.Entries.{entry_at}
use Rattle.gate_core.specs.Words.{asks_for}
use Rattle.gate_core.proofs.WordLemmas.{same_asked, listed_with, listed_without}
use Rattle.gate_core.proofs.first.asked.codes_asking.Goals as goal
use Rattle.gate_core.proofs.first.asked.codes_asking.Goals.{then-eq+in_ok-push, else-eq}

pub loop-s-preserved : goal.loop-s-preserved
loop-s-preserved c =
    let entry : entry_at c.args.column.now c.loop-s.s ≡ c.get.result = get_or_from_slice_get c.args.column.now c.loop-s.s c.get.result Free c.get.ensures in
    let test = ap (asks_for c.args.asked) entry ∙ sym (same_asked c.get.result c.args.asked c.requires.asked) in
    elim c.if-eq.branch [
      | then-eq+in_ok-push w ↦ ap (λ v. v.items) w.asking-is ∙ w.in_ok-push.ensures.items
          ∙ listed_with c.args.asked c.args.codes.now c.args.column.now c.loop-s.s
          (slice_index c.args.codes.now w.from.result) c.loop-s.asking.items c.loop-s.invariant
          (ap (λ i. slice_index c.args.codes.now i) w.from.ensures) (test ∙ sym c.eq.ensures ∙ w.if-eq.true)
      | else-eq w ↦ ap (λ v. v.items) w.asking-is
          ∙ listed_without c.args.asked c.args.codes.now c.args.column.now c.loop-s.s c.loop-s.asking.items
          c.loop-s.invariant (test ∙ sym c.eq.ensures ∙ w.if-eq.false)
    ]
