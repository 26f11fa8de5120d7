use Rattle.text_rows.specs.Lines.{free_lines}
use Rattle.dimacs_text.proofs.JoinedReadLemmas.{fault_judged}
use Rattle.dimacs_text.proofs.cnf.judged_fault.Goals as goal

pub returns-in-Err : goal.returns-in-Err
returns-in-Err c = rw c.joined_fault.ensures (fault_judged c.args.header.variables c.args.header.clauses c.args.lines (free_lines c.args.rest.now) c.in-Err.fault c.in-Err.ensures)
