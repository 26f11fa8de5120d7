use Rattle.std.proofs.Common.{[]}
use Rattle.gate_core.specs.Matching.{IsMatching}
use Rattle.gate_core.specs.Patterns.{MayHave}
use Rattle.gate_core.proofs.codes.match_all.Given as goal

abbrev pub invariant-loop-k : goal.invariant-loop-k
invariant-loop-k l = IsMatching (MayHave l.given []) l.top l.k l.words
