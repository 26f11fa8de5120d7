use Rattle.std.proofs.Common.{◌≡◌, ◌≤◌, ◌+◌, ◌++◌, ℕ, List, length}
use Rattle.proof_check.specs.Lines.{Line}
use Rattle.text_rows.specs.Lines.{free_lines}
use Rattle.dimacs_text.specs.Keeping.{IsLitsFor}
use Rattle.dimacs_text.proofs.LogTextLemmas.{IsSoFar}
use Rattle.dimacs_text.proofs.log.judge_log.Given as goal

abbrev pub invariant-loop-line : goal.invariant-loop-line
invariant-loop-line l = record {
  kind : IsLitsFor l.variables l.lits;
  counted : length l.rest + l.number ≤ length l.bytes + l.before;
  parts : (good : List (List ℕ)) × (log : List Line) × (free_lines l.bytes ≡ good ++ free_lines l.rest) × (l.number ≡ l.before + length good) × IsSoFar l.variables l.clauses good log l.last;
}

abbrev pub decreases-loop-line : goal.decreases-loop-line
decreases-loop-line l = length l.rest
