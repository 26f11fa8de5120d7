use Rattle.dimacs_text.proofs.WritingLemmas.{clause_written}
use Rattle.dimacs_text.proofs.writing.put_clause.Goals as goal

pub returns : goal.returns
returns c = clause_written _ _ _ c.args.lits.now c.in_ok-put_lits.ensures.text c.in_ok-push_str.ensures.bytes
