use Rattle.std.proofs.Common.{arith}
use Rattle.pg_text.proofs.FileLaws.{few_statements}
use Rattle.pg_text.proofs.file.File.len.Goals as goal

pub overflow_cast-result : goal.overflow_cast-result
overflow_cast-result c = omega (arith, c.len.ensures, few_statements _ c.self.invariant)
