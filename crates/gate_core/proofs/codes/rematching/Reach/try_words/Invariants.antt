use Rattle.std.proofs.Common.{ℕ, ◌<◌}
use Rattle.gate_core.specs.Matching.{IsReach, IsOwned, Grows}
use Rattle.gate_core.specs.Patterns.{MayHave}
use Rattle.gate_core.proofs.codes.rematching.Reach.try_words.Given as goal

abbrev pub invariant-loop-word : goal.invariant-loop-word
invariant-loop-word l = record {
  reach : IsReach (MayHave l.task.given.now l.task.fixed.now) l.task.top l.task.count l.hole l.words l.self.lists l.self.reached;
  grows : Grows l.fn.self.reached l.self.reached;
  tried : (w : ℕ) → w < l.task.top → w < l.word → MayHave l.task.given.now l.task.fixed.now l.i w → IsOwned l.task.count l.hole l.words l.self.reached w;
}
