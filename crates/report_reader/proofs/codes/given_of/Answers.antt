use Rattle.std.proofs.Common.{◌≡◌, ℕ, Some, List, ap, sym, ◌∙◌, arith}
use Rattle.report_reader.proofs.StepLaws.{not_given, given_behind, not_empty_from}
use Rattle.report_reader.proofs.codes.given_of.Goals as goal

pub returns-in-None : goal.returns-in-None
returns-in-None c = not_given c.args.bits c.args.text.now (not_empty_from c.args.text.now c.is_empty.result c.is_empty.ensures c.if-is_empty.false) (sym c.in-None.ensures)

pub returns-in-Some : goal.returns-in-Some
returns-in-Some c = c.pattern_of.ensures ∙ given_behind c.args.bits c.args.text.now c.in-Some.entries.now (sym c.in-Some.ensures)
