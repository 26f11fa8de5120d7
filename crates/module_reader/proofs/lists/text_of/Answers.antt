use Rattle.module_reader.proofs.NameSteps.{IsUtf8-name}
use Rattle.module_reader.proofs.lists.text_of.Goals as goal

pub unreachable-requires : goal.unreachable-requires
unreachable-requires c = c.in-Err.ensures.cases.0 (IsUtf8-name c.args.word.now c.requires)
