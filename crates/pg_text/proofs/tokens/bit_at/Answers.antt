use Rattle.pg_text.proofs.TokenLaws.{no_bit}
use Rattle.pg_text.proofs.tokens.bit_at.Goals as goal

pub returns-in-None-clause-cases : goal.returns-in-None-clause-cases
returns-in-None-clause-cases c = no_bit c.args.bytes.now c.in_default.ensures.cases c.in-None.ensures.cases
