use Rattle.report_reader.proofs.StepLaws.{digit_below}
use Rattle.report_reader.proofs.codes.+word_of.Goals as goal

pub returns-in_ok-word-in-len1-up-clause-below : goal.returns-in_ok-word-in-len1-up-clause-below
returns-in_ok-word-in-len1-up-clause-below n c = digit_below c.args.bits c.in_ok-digit-in-len1-up.digit c.in_ok-word-in-len1-up.word c.if-bits-eq0-2.false c.in_ok-digit-in-len1-up.ensures.small c.in_ok-word-in-len1-up.ensures.below
