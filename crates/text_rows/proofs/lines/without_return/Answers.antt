use Rattle.std.proofs.Common.{arith, ◌-◌, ◌<◌, length}
use Rattle.text_rows.proofs.LineLemmas.{return_dropped, return_stays}
use Rattle.text_rows.proofs.lines.without_return.Goals as goal

pub returns-then-line-end-eq13-clause-line : goal.returns-then-line-end-eq13-clause-line
returns-then-line-end-eq13-clause-line c = let some : 0 < length c.args.line.now = grind arith in return_dropped c.args.line.now (length c.args.line.now - 1) (omega arith) c.if-line-end-eq13.true

pub returns-else-line-end-eq13-clause-line : goal.returns-else-line-end-eq13-clause-line
returns-else-line-end-eq13-clause-line c = let some : 0 < length c.args.line.now = grind arith in return_stays c.args.line.now (length c.args.line.now - 1) (omega arith) c.if-line-end-eq13.false
