use Rattle.std.proofs.Common.{length}
use Rattle.std.specs.Fmt.{decimal}
use Rattle.text_rows.specs.Words.{tokens}
use Rattle.dimacs_text.specs.Logs.{IsId}
use Rattle.dimacs_text.proofs.EntryLemmas.{IsRead}
use Rattle.dimacs_text.proofs.log.read_ids.Given as goal

abbrev pub invariant-loop-n : goal.invariant-loop-n
invariant-loop-n l = record {
  read : IsRead decimal IsId (tokens l.words) l.ids.items (tokens l.rest);
}

abbrev pub decreases-loop-n : goal.decreases-loop-n
decreases-loop-n l = length l.rest
