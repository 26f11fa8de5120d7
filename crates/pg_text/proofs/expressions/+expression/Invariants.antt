use Rattle.std.proofs.Common.{◌+◌, ◌*◌, ◌≤◌, length}
use Rattle.pg_text.specs.Grammar.{graph, product, sum}
use Rattle.pg_text.proofs.RowSteps.{FoundRow, OnlyRow}
use Rattle.pg_text.proofs.expressions.+expression.Given as goal

abbrev pub decreases-expression_at : goal.decreases-expression_at
decreases-expression_at l = 4 * length l.bytes.now + 3

abbrev pub decreases-more_sequences_at : goal.decreases-more_sequences_at
decreases-more_sequences_at l = 4 * length l.bytes.now + 3

abbrev pub decreases-sequence_at : goal.decreases-sequence_at
decreases-sequence_at l = 4 * length l.bytes.now + 2

abbrev pub decreases-more_factors_at : goal.decreases-more_factors_at
decreases-more_factors_at l = 4 * length l.bytes.now + 2

abbrev pub decreases-factor_at : goal.decreases-factor_at
decreases-factor_at l = 4 * length l.bytes.now + 1

abbrev pub decreases-group_at : goal.decreases-group_at
decreases-group_at l = 4 * length l.bytes.now

abbrev pub decreases-guard_at : goal.decreases-guard_at
decreases-guard_at l = 4 * length l.bytes.now

abbrev pub invariant-more_sequences_at-members : goal.invariant-more_sequences_at-members
invariant-more_sequences_at-members l = record {
  found : FoundRow graph sum l.room l.fn.first l.fn.operations l.operations l.bytes l.left l.members.items;
  only : OnlyRow graph sum l.room l.bytes l.left;
  some : 1 ≤ length l.members.items;
  shorter : length l.left ≤ length l.bytes;
  numbers : length l.operations + length l.left ≤ length l.fn.operations + length l.bytes;
}

abbrev pub decreases-more_sequences_at-members : goal.decreases-more_sequences_at-members
decreases-more_sequences_at-members l = length l.left

abbrev pub invariant-more_factors_at-members : goal.invariant-more_factors_at-members
invariant-more_factors_at-members l = record {
  found : FoundRow graph product l.room l.fn.first l.fn.operations l.operations l.bytes l.left l.members.items;
  only : OnlyRow graph product l.room l.bytes l.left;
  some : 1 ≤ length l.members.items;
  shorter : length l.left ≤ length l.bytes;
  numbers : length l.operations + length l.left ≤ length l.fn.operations + length l.bytes;
}

abbrev pub decreases-more_factors_at-members : goal.decreases-more_factors_at-members
decreases-more_factors_at-members l = length l.left
