use Rattle.std.proofs.Common.{◌<◌, ℕ}
use Rattle.cpog_merge.specs.Incompatible.{AreIncompatible}
use Rattle.report_judge.specs.Known.{member_column}
use Rattle.report_judge.proofs.evidence.is_member.Given as goal

abbrev pub invariant-loop-j : goal.invariant-loop-j
invariant-loop-j l =
    (k : ℕ) → k < l.j → AreIncompatible (member_column l.basis.orders.items l.places k) (member_column l.basis.orders.items l.places l.i)
