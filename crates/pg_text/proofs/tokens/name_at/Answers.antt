use Rattle.std.proofs.Common.{sym, ◌∙◌}
use Rattle.pg_text.proofs.TokenLaws.{no_name}
use Rattle.pg_text.proofs.tokens.name_at.Goals as goal

pub returns-else-is_free_name-clause-cases : goal.returns-else-is_free_name-clause-cases
returns-else-is_free_name-clause-cases c = no_name c.args.bytes.now c.split_blanks.result.0.now c.split_blanks.result.1.now c.split_word.result.0.now c.split_word.result.1.now c.split_blanks.ensures c.split_word.ensures (sym c.is_free_name.ensures ∙ c.if-is_free_name.false)
