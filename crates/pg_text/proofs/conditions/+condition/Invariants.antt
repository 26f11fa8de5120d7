use Rattle.std.proofs.Common.{◌+◌, ◌*◌, ◌≤◌, [], length}
use Rattle.pg_text.specs.Grammar.{condition, product, sum}
use Rattle.pg_text.proofs.RowSteps.{FoundRow, OnlyRow}
use Rattle.pg_text.proofs.conditions.+condition.Given as goal

abbrev pub decreases-condition_at : goal.decreases-condition_at
decreases-condition_at l = 4 * length l.bytes.now + 3

abbrev pub decreases-more_conjunctions_at : goal.decreases-more_conjunctions_at
decreases-more_conjunctions_at l = 4 * length l.bytes.now + 3

abbrev pub decreases-conjunction_at : goal.decreases-conjunction_at
decreases-conjunction_at l = 4 * length l.bytes.now + 2

abbrev pub decreases-more_operands_at : goal.decreases-more_operands_at
decreases-more_operands_at l = 4 * length l.bytes.now + 2

abbrev pub decreases-operand_at : goal.decreases-operand_at
decreases-operand_at l = 4 * length l.bytes.now + 1

abbrev pub decreases-group_at : goal.decreases-group_at
decreases-group_at l = 4 * length l.bytes.now

abbrev pub decreases-negation_at : goal.decreases-negation_at
decreases-negation_at l = 4 * length l.bytes.now

abbrev pub invariant-more_conjunctions_at-members : goal.invariant-more_conjunctions_at-members
invariant-more_conjunctions_at-members l = record {
  found : FoundRow condition sum l.room l.fn.first [] [] l.bytes l.left l.members.items;
  only : OnlyRow condition sum l.room l.bytes l.left;
  some : 1 ≤ length l.members.items;
  shorter : length l.left ≤ length l.bytes;
}

abbrev pub decreases-more_conjunctions_at-members : goal.decreases-more_conjunctions_at-members
decreases-more_conjunctions_at-members l = length l.left

abbrev pub invariant-more_operands_at-members : goal.invariant-more_operands_at-members
invariant-more_operands_at-members l = record {
  found : FoundRow condition product l.room l.fn.first [] [] l.bytes l.left l.members.items;
  only : OnlyRow condition product l.room l.bytes l.left;
  some : 1 ≤ length l.members.items;
  shorter : length l.left ≤ length l.bytes;
}

abbrev pub decreases-more_operands_at-members : goal.decreases-more_operands_at-members
decreases-more_operands_at-members l = length l.left
