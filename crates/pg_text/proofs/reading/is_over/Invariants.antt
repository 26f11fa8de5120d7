use Rattle.std.proofs.Common.{◌≡◌, ◌+◌, take, sum_by}
use Rattle.pg_text.specs.Text.{count_in}
use Rattle.pg_text.proofs.reading.is_over.Given as goal

abbrev pub invariant-statements : goal.invariant-statements
invariant-statements l = l.left + sum_by (λ s. count_in l.what s.statement) (take l.numbered-index l.statements) ≡ l.limit
