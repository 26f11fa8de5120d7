use Rattle.std.proofs.Common.{ℕ, ◌<◌, get_or}
use Rattle.cpog_merge.specs.Incompatible.{AreIncompatible, column_of}
use Rattle.cpog_merge.proofs.counting.is_apart_from.Given as goal

abbrev pub invariant-loop-k : goal.invariant-loop-k
invariant-loop-k l = (i : ℕ) → i < l.k → AreIncompatible (column_of l.columns (get_or l.taken i 0)) (column_of l.columns l.c)
