use Rattle.pg_text.specs.Tokens.{is_blank}
use Rattle.pg_text.proofs.Runs.{run_at}
use Rattle.pg_text.proofs.tokens.split_blanks.Goals as goal

pub returns : goal.returns
returns c = run_at is_blank c.args.bytes.now c.count_blanks.result _ _ c.count_blanks.ensures.run c.split_at.ensures.front c.split_at.ensures.back
