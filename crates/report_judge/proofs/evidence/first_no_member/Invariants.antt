use Rattle.std.proofs.Common.{◌<◌, ℕ}
use Rattle.report_judge.specs.Known.{IsMember}
use Rattle.report_judge.proofs.evidence.first_no_member.Given as goal

abbrev pub invariant-loop-i : goal.invariant-loop-i
invariant-loop-i l = (k : ℕ) → k < l.i → IsMember l.basis.orders.items l.places k
