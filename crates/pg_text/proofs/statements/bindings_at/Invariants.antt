use Rattle.std.proofs.Common.{length}
use Rattle.pg_text.specs.Sentences.{bind_tokens}
use Rattle.pg_text.proofs.CommaSteps.{FoundCommas, OnlyCommas}
use Rattle.pg_text.proofs.SentenceLaws.{same_binding}
use Rattle.pg_text.proofs.statements.bindings_at.Given as goal

abbrev pub invariant-bindings : goal.invariant-bindings
invariant-bindings l = record {
  found : FoundCommas bind_tokens same_binding l.bytes l.left l.bindings.items;
  only : OnlyCommas bind_tokens same_binding l.bytes l.left;
}

abbrev pub decreases-bindings : goal.decreases-bindings
decreases-bindings l = length l.left
