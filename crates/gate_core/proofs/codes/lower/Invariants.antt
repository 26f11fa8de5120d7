use Rattle.std.proofs.Common.{◌≡◌, ℕ, List, ◌<◌, length, take, get_or}
use Rattle.gate_core.specs.Matching.{IsMatching, IsTight}
use Rattle.gate_core.specs.Patterns.{MayHave}
use Rattle.gate_core.proofs.codes.lower.Given as goal

abbrev pub invariant-loop-word : goal.invariant-loop-word
invariant-loop-word l = record {
  same : take l.s l.fixed ≡ take l.s l.fn.fixed;
  tried : (other : List ℕ) → IsMatching (MayHave l.given (take l.s l.fn.fixed)) l.top (length l.given) other → get_or other l.s 0 < l.word → ⊥;
  blocked : IsTight (MayHave l.given (take l.s l.fn.fixed)) l.top (length l.given) l.s l.words l.marks;
}
