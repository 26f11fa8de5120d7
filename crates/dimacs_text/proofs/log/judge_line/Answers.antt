use Rattle.std.proofs.Common.{sym}
use Rattle.proof_check.specs.Lines.{Line}
use Rattle.dimacs_text.proofs.LogTextLemmas.{judged_passed, judged_more}
use Rattle.dimacs_text.proofs.log.judge_line.Goals as goal

pub returns-then-is_passed-clause-step : goal.returns-then-is_passed-clause-step
returns-then-is_passed-clause-step c = judged_passed c.args.variables c.args.last c.args.line.now (sym c.if-is_passed.ensures)

pub returns-in-Add-clause-step : goal.returns-in-Add-clause-step
returns-in-Add-clause-step c =
    let e = rw c.in-Add.is at c.in_ok-read_entry.ensures.entry in
    judged_more c.args.variables c.args.last c.args.line.now (Line.Add c.in-Add.id e.0 c.read_entry.new.hints.items) (sym c.if-is_passed.ensures) e.2

pub returns-in-Del-clause-step : goal.returns-in-Del-clause-step
returns-in-Del-clause-step c =
    let e = rw c.in-Del.is at c.in_ok-read_entry.ensures.entry in
    judged_more c.args.variables c.args.last c.args.line.now (Line.Del c.read_entry.new.hints.items) (sym c.if-is_passed.ensures) e
