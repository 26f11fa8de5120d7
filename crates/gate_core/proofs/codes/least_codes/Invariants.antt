use Rattle.std.proofs.Common.{◌≡◌, ℕ, List, ◌<◌, ◌≤◌, length, take, get_or}
use Rattle.gate_core.specs.Matching.{IsMatching}
use Rattle.gate_core.specs.Patterns.{MayHave}
use Rattle.gate_core.specs.Least.{Agree}
use Rattle.gate_core.proofs.codes.least_codes.Given as goal

abbrev pub invariant-loop-s : goal.invariant-loop-s
invariant-loop-s l = record {
  words : IsMatching (MayHave l.given (take l.s l.fixed)) l.top (length l.given) l.words;
  least : (other : List ℕ) (k : ℕ) → k < l.s → Agree l.given l.top (length l.given) other →
      ((j : ℕ) → j < k → get_or other j 0 ≡ get_or l.fixed j 0) → get_or l.fixed k 0 ≤ get_or other k 0;
}
