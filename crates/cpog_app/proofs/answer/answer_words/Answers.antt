use Rattle.std.proofs.Common.{map, sym, ◌∙◌}
use Rattle.std.specs.String.{string_bytes}
use Rattle.command_words.proofs.WordLemmas.{may_be_named}
use Rattle.cpog_app.proofs.answer.answer_words.Goals as goal

pub answer_command-requires : goal.answer_command-requires
answer_command-requires g c = may_be_named (map string_bytes c.args.words.now) c.in-Some.command (sym c.read_words.ensures ∙ c.in-Some.is)
