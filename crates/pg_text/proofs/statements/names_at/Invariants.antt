use Rattle.std.proofs.Common.{length}
use Rattle.pg_text.specs.Sentences.{name_tokens}
use Rattle.pg_text.proofs.CommaSteps.{FoundCommas, OnlyCommas}
use Rattle.pg_text.proofs.SentenceLaws.{same_name}
use Rattle.pg_text.proofs.statements.names_at.Given as goal

abbrev pub invariant-names : goal.invariant-names
invariant-names l = record {
  found : FoundCommas name_tokens same_name l.bytes l.left l.names.items;
  only : OnlyCommas name_tokens same_name l.bytes l.left;
}

abbrev pub decreases-names : goal.decreases-names
decreases-names l = length l.left
