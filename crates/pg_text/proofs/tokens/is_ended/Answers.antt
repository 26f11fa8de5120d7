use Rattle.pg_text.proofs.TokenLaws.{ended_after}
use Rattle.pg_text.proofs.tokens.is_ended.Goals as goal

pub returns : goal.returns
returns c = ended_after c.args.bytes.now c.split_blanks.result.0.now c.split_blanks.result.1.now c.ends_here.result c.split_blanks.ensures c.ends_here.ensures
