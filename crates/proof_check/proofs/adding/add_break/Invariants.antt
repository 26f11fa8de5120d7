use Rattle.std.proofs.Common.{List}
use Rattle.clause_arena.specs.Clauses.{Lit}
use Rattle.proof_check.specs.Marks.{IsTable, Represent}
use Rattle.proof_check.specs.Lives.{live_by}
use Rattle.proof_check.proofs.HintLemmas.{IsAhead}
use Rattle.proof_check.proofs.adding.add_break.Given as goal

abbrev pub invariant-loop-i : goal.invariant-loop-i
invariant-loop-i l = record {
  table : IsTable l.formula.variables l.marks.items l.stamp;
  ahead : (f : List Lit) × Represent l.formula.variables l.marks.items l.stamp f × IsAhead (live_by l.formula.clauses.clauses l.log.lines l.clauses_live l.lines_live) l.lits l.hints f l.i;
}
