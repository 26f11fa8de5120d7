use Rattle.std.proofs.Common.{◌≡◌, ℕ, ◌<◌}
use Rattle.cpog_defs.specs.Codes.{bit}
use Rattle.cpog_base.specs.Pattern.{HasGivenBits}
use Rattle.report_text.proofs.given.allows_at.Given as goal

abbrev pub invariant-loop-word : goal.invariant-loop-word
invariant-loop-word l = (w : ℕ) → w < l.word → (bit w l.i ≡ l.value) × HasGivenBits l.pattern w → ⊥
