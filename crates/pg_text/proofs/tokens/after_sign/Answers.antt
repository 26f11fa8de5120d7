use Rattle.pg_text.proofs.TokenLaws.{sign_after}
use Rattle.pg_text.proofs.tokens.after_sign.Goals as goal

pub returns-clause-cases : goal.returns-clause-cases
returns-clause-cases c = sign_after c.args.bytes.now c.split_blanks.result.0.now c.split_blanks.result.1.now c.args.sign c.strip_sign.result c.split_blanks.ensures c.strip_sign.ensures
