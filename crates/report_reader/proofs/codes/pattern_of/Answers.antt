use Rattle.std.proofs.Common.{◌≡◌, ℕ, Some, List, ap, sym, ◌∙◌, arith}
use Rattle.std.specs.List.{list_any}
use Rattle.cpog_base.specs.Pattern.{given_entries, is_given}
use Rattle.cpog_base.specs.PatternLaws.{length-given}
use Rattle.cpog_defs.specs.declared.types.Bit3.{Bit3}
use Rattle.report_reader.proofs.StepLaws.{not_so_many, bad_is_none, open_is_none, pattern_is, some_is_given, zero_gives_none}
use Rattle.report_reader.proofs.codes.pattern_of.Goals as goal

pub returns-then-entries-from : goal.returns-then-entries-from
returns-then-entries-from c = not_so_many c.args.bits c.args.entries.now (λ e. c.if-entries-from.true (e ∙ sym c.from.ensures))

pub returns-then-given-eq0 : goal.returns-then-given-eq0
returns-then-given-eq0 c = open_is_none c.args.bits c.args.entries.now _ c.in-Some.ensures.some (ap (λ (m : ℕ). list_any is_given (given_entries c.args.bits m c.in-Some.given.value)) c.if-given-eq0.true ∙ zero_gives_none c.args.bits c.in-Some.given.value)

pub returns : goal.returns
returns c = ap (λ (xs : List Bit3). Some xs) c.new.ensures ∙ pattern_is c.args.bits c.args.entries.now _ c.in-Some.ensures.some (length-given c.args.bits c.in-Some.given.mask c.in-Some.given.value) (some_is_given c.args.bits c.in-Some.given.mask c.in-Some.given.value c.in-Some.ensures.mask c.if-given-eq0.false)
