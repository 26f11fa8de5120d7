use Rattle.std.proofs.Common.{arith}
use Rattle.pg_text.proofs.TextSteps.{at_first, line_done, bad_line}
use Rattle.pg_text.proofs.reading.read_lines.Goals as goal

pub lines-init : goal.lines-init
lines-init c = rw (c.new-statements.ensures.items, c.new-operations.ensures) (record { done = at_first c.args.bytes.now; numbers = omega arith; numbers_left = omega arith })

pub returns-in-Err-Bad-clause-err : goal.returns-in-Err-Bad-clause-err
returns-in-Err-Bad-clause-err c =
    bad_line c.args.bytes.now c.lines.rest.now c.in-Some.line.now c.in-Some.after.now c.lines.number c.lines.statements.items c.lines.operations c.lines.invariant.done c.in-Some.ensures.lines (rw c.in-Err-Bad.field-0-is at c.in-Err-Bad.ensures.err)

pub lines-preserved : goal.lines-preserved
lines-preserved c = record {
  done = line_done c.args.bytes.now c.lines.rest.now c.in-Some.line.now c.in-Some.after.now c.lines.number c.lines.statements.items c.keep.new.statements.items c.lines.operations c.read_line.new.operations c.in-Ok.statement c.lines.invariant.done c.in-Some.ensures.lines c.in-Ok.ensures.found c.in_ok-keep.ensures;
  numbers = omega (arith, c.lines.invariant.numbers, c.in-Some.ensures.shorter);
  numbers_left = omega (arith, c.lines.invariant.numbers_left, c.in-Ok.ensures.numbers, c.in-Some.ensures.parts);
}
