use Rattle.std.proofs.Common.{length}
use Rattle.text_rows.specs.Words.{tokens}
use Rattle.dimacs_text.specs.Keeping.{IsFor}
use Rattle.dimacs_text.proofs.StreamLemmas.{IsReached}
use Rattle.dimacs_text.proofs.cnf.read_numbers.Given as goal

abbrev pub invariant-loop-negated : goal.invariant-loop-negated
invariant-loop-negated l = record {
  kind : IsFor l.header.variables l.body;
  read : IsReached l.header.variables l.header.clauses l.initial.body l.body (tokens l.line) (tokens l.rest);
}

abbrev pub decreases-loop-negated : goal.decreases-loop-negated
decreases-loop-negated l = length l.rest
