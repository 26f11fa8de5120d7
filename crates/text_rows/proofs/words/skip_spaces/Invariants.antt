use Rattle.std.proofs.Common.{◌≡◌, ◌≤◌, length}
use Rattle.text_rows.specs.Words.{tokens}
use Rattle.text_rows.proofs.words.skip_spaces.Given as goal

abbrev pub invariant-loop-rest : goal.invariant-loop-rest
invariant-loop-rest l = record { words : tokens l.bytes ≡ tokens l.rest; shorter : length l.rest ≤ length l.bytes }

abbrev pub decreases-loop-rest : goal.decreases-loop-rest
decreases-loop-rest l = length l.rest
