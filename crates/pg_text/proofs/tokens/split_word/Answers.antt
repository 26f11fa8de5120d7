use Rattle.line_text.specs.Words.{continues_name}
use Rattle.pg_text.proofs.Runs.{run_at}
use Rattle.pg_text.proofs.tokens.split_word.Goals as goal

pub returns : goal.returns
returns c = run_at continues_name c.args.bytes.now c.count_word.result _ _ c.count_word.ensures.run c.split_at.ensures.front c.split_at.ensures.back
