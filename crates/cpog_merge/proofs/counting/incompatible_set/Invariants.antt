use Rattle.cpog_merge.specs.Incompatible.{AreTaken}
use Rattle.cpog_merge.proofs.counting.incompatible_set.Given as goal

abbrev pub invariant-loop-c : goal.invariant-loop-c
invariant-loop-c l = AreTaken l.columns l.c l.taken.items
