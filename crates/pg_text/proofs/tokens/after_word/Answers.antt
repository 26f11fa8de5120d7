use Rattle.pg_text.specs.Tokens.{word_text}
use Rattle.pg_text.proofs.TokenLaws.{no_word, differs, same_word_text}
use Rattle.pg_text.proofs.tokens.after_word.Goals as goal

pub returns-else-eq-clause-cases : goal.returns-else-eq-clause-cases
returns-else-eq-clause-cases c = no_word c.args.bytes.now c.split_blanks.result.0.now c.split_blanks.result.1.now c.split_word.result.0.now c.split_word.result.1.now c.args.word c.split_blanks.ensures c.split_word.ensures (differs c.split_word.result.0.now c.text_of_word.result.now (word_text c.args.word) (same_word_text c.args.word) c.if-eq.ensures c.text_of_word.ensures)
