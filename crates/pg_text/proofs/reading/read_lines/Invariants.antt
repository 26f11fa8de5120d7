use Rattle.std.proofs.Common.{◌+◌, ◌≤◌, length}
use Rattle.pg_text.proofs.TextSteps.{IsDone}
use Rattle.pg_text.proofs.reading.read_lines.Given as goal

abbrev pub invariant-lines : goal.invariant-lines
invariant-lines l = record {
  done : IsDone l.bytes l.rest l.number l.statements.items l.operations;
  numbers : l.number + length l.rest ≤ length l.bytes;
  numbers_left : length l.operations + length l.rest ≤ length l.bytes;
}

abbrev pub decreases-lines : goal.decreases-lines
decreases-lines l = length l.rest
