use Rattle.std.proofs.Common.{◌≡◌, ℕ, ◌<◌, get_or, Option, None, arith, sym, ap, ◌∙◌, refl}
use Rattle.report_reader.specs.Codes.{entry_in}
use Rattle.report_reader.proofs.StepLaws.{bad_entry, entries_told, entries_go_on, none_unless}
use Rattle.report_reader.proofs.codes.entries_of.Goals as goal

pub returns-in_default-clause-none : goal.returns-in_default-clause-none
returns-in_default-clause-none c = bad_entry c.args.entries.now c.loop-i.i (omega (arith, c.loop-i-test.true, c.requires.many)) (sym (ap (λ (k : ℕ). entry_in (get_or c.args.entries.now k 0)) c.from.ensures) ∙ sym c.entry_of.ensures ∙ none_unless c.entry_of.result c.in_default.not-Some)

pub loop-i-preserved : goal.loop-i-preserved
loop-i-preserved c =
    let w = c.with_entry-given.ensures in
    (w.mask, w.value, w.within, entries_go_on c.args.entries.now c.loop-i.i c.loop-i.given.mask c.loop-i.given.value c.with_entry-given.result.mask c.with_entry-given.result.value c.in-Some.entry c.loop-i.invariant.3 (sym (ap (λ (k : ℕ). entry_in (get_or c.args.entries.now k 0)) c.from.ensures) ∙ sym c.entry_of.ensures ∙ c.in-Some.is) w.here w.same)

pub returns-clause-some : goal.returns-clause-some
returns-clause-some c = entries_told c.args.entries.now c.args.bits _ _ c.requires.many (λ k lt. c.loop-i.invariant.3 k (omega (arith, lt, c.loop-i-test.false)))
