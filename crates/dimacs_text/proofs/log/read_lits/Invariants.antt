use Rattle.std.proofs.Common.{length}
use Rattle.clause_arena.specs.Clauses.{Clause}
use Rattle.text_rows.specs.Words.{tokens}
use Rattle.dimacs_text.specs.Logs.{IsLitWithin, lit_word}
use Rattle.dimacs_text.specs.Keeping.{HoldsLits, IsLitsFor, IsKept}
use Rattle.dimacs_text.proofs.EntryLemmas.{IsRead}
use Rattle.dimacs_text.proofs.log.read_lits.Given as goal

abbrev pub invariant-loop-negated : goal.invariant-loop-negated
invariant-loop-negated l = record {
  kind : IsLitsFor l.variables l.lits;
  kept : IsKept l.fn.lits → IsKept l.lits;
  read : (items : Clause) × HoldsLits l.lits items × IsRead lit_word (IsLitWithin l.variables) (tokens l.words) items (tokens l.rest);
}

abbrev pub decreases-loop-negated : goal.decreases-loop-negated
decreases-loop-negated l = length l.rest
