use Rattle.std.proofs.Common.{◌≡◌, ◌≤◌, ◌+◌, ◌++◌, true, List, ℕ, length}
use Rattle.std.specs.List.{AllByRecursion}
use Rattle.text_rows.specs.Lines.{free_lines}
use Rattle.dimacs_text.specs.Logs.{is_passed}
use Rattle.dimacs_text.proofs.cnf.read_front.Given as goal

abbrev pub invariant-loop-line : goal.invariant-loop-line
invariant-loop-line l = record {
  counted : length l.rest + l.lines ≤ length l.bytes;
  parts : (front : List (List ℕ)) × (free_lines l.bytes ≡ front ++ free_lines l.rest) × (l.lines ≡ length front) × AllByRecursion (λ x. is_passed x ≡ true) front;
}

abbrev pub decreases-loop-line : goal.decreases-loop-line
decreases-loop-line l = length l.rest
