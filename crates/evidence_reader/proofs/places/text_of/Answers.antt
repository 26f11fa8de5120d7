use Rattle.evidence_reader.proofs.NameLemmas.{name_is_utf8}
use Rattle.evidence_reader.proofs.places.text_of.Goals as goal

pub unreachable-requires : goal.unreachable-requires
unreachable-requires c = c.in-Err.ensures.cases.0 (name_is_utf8 c.args.word.now c.requires)
