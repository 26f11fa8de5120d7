use Rattle.std.proofs.Common.{arith}
use Rattle.pg_text.proofs.FileTexts.{line_more, all_lines}
use Rattle.pg_text.proofs.WriteLaws.{written_file}
use Rattle.pg_text.proofs.writing.write_file.Goals as goal

pub statements-preserved : goal.statements-preserved
statements-preserved c =
    line_more c.args.file.now.operations c.operations.result.now c.args.file.now.statements c.statements.i c.statement.result.now c.statements.out.items c.put_statement.new.out.items c.put.new.out.items
    c.statement.ensures.statement c.operations.ensures c.statements.invariant c.in_ok-put_statement.ensures c.in_ok-put.ensures.put

pub returns-clause-read : goal.returns-clause-read
returns-clause-read c =
    written_file c.args.file.now c.statements.out.items c.len-i-end.ensures.file
    (all_lines c.args.file.now c.statements.i c.statements.out.items c.statements.invariant (omega (arith, c.len-i-end.ensures.len, c.statements-test.false)))
