use Rattle.std.proofs.Common.{◌≡◌, ◌≤◌, ◌+◌, ◌++◌, ℕ, List, length}
use Rattle.proof_check.specs.Lines.{last_id}
use Rattle.text_rows.specs.Lines.{free_lines}
use Rattle.dimacs_text.specs.Keeping.{IsLitsFor, IsKept}
use Rattle.dimacs_text.proofs.LogTextLemmas.{IsSoFar}
use Rattle.dimacs_text.proofs.log.read_log_after.Given as goal

abbrev pub invariant-loop-line : goal.invariant-loop-line
invariant-loop-line l = record {
  kind : IsLitsFor l.variables l.lits;
  kept : IsKept l.lits;
  first : l.log.first ≡ l.clauses;
  last : last_id l.log.first l.log.lines ≡ l.last;
  counted : length l.rest + l.number ≤ length l.bytes + l.before;
  parts : (good : List (List ℕ)) × (free_lines l.bytes ≡ good ++ free_lines l.rest) × (l.number ≡ l.before + length good) × IsSoFar l.variables l.clauses good l.log.lines l.last;
}

abbrev pub decreases-loop-line : goal.decreases-loop-line
decreases-loop-line l = length l.rest
