use Rattle.std.proofs.Common.{◌≡◌, ℕ, ◌<◌, IsTrue, length}
use Rattle.std.specs.List.{sum_by}
use Rattle.gate_core.specs.Matching.{IsReach, IsTried, is_in, weight}
use Rattle.gate_core.specs.Patterns.{MayHave}
use Rattle.gate_core.proofs.codes.rematching.rematch.Given as goal

abbrev pub invariant-turns : goal.invariant-turns
invariant-turns l = record {
  reach : IsReach (MayHave l.task.given.now l.task.fixed.now) l.task.top l.task.count l.hole l.words l.reach.lists l.reach.reached;
  size : length l.tried ≡ 64;
  tried : (i : ℕ) → i < l.task.count → IsTrue (is_in l.tried i) → IsTried (MayHave l.task.given.now l.task.fixed.now) l.task.top l.task.count l.hole l.words l.reach.reached i;
}

abbrev pub decreases-turns : goal.decreases-turns
decreases-turns l = sum_by weight l.tried
