use Rattle.std.proofs.Common.{◌≡◌, ◌≤◌, ◌+◌, ◌++◌, List, ℕ, length}
use Rattle.clause_arena.specs.Clauses.{Clause}
use Rattle.text_rows.specs.Lines.{free_lines}
use Rattle.dimacs_text.specs.Keeping.{Holds, IsFor}
use Rattle.dimacs_text.specs.Bodies.{IsGood}
use Rattle.dimacs_text.proofs.cnf.read_body.Given as goal

abbrev pub invariant-loop-line : goal.invariant-loop-line
invariant-loop-line l = record {
  kind : IsFor l.header.variables l.body;
  counted : length l.rest + l.lines ≤ 536870912;
  parts : (good : List (List ℕ)) × (ds : List Clause) × (os : Clause) × (free_lines l.bytes ≡ good ++ free_lines l.rest) × (l.lines ≡ l.before + length good) × Holds l.body ds os × IsGood l.header.variables l.header.clauses good ds os;
}

abbrev pub decreases-loop-line : goal.decreases-loop-line
decreases-loop-line l = length l.rest
