-- The rows of a report's head, on the definitions by which they are written.
use Rattle.std.proofs.Common.{lit<, ◌≡◌, ℕ, ◌<◌, ◌≤◌, ◌+◌, ◌^◌, Bool, true, leb, List, arith, refl}
use Rattle.std.specs.Prelude.{codes}
use Rattle.line_rows.proofs.Exact.{IsExact, exact-behind, exact-where, number_exact}
use Rattle.report_text.specs.Rows.{bits_row, budget_row}
use Rattle.report_reader.specs.Reading.{bits_in, budget_in}

pub bits_exact : IsExact (λ n. (n < 9) × (leb 1 n ≡ true)) bits_row bits_in
unfolding bits_in
bits_exact = exact-behind (codes "bits ") (exact-where (leb 1) (number_exact 9 (omega arith)))

pub budget_exact : IsExact (λ n. (n < 8388609) × (leb 1 n ≡ true)) budget_row budget_in
unfolding budget_in
budget_exact = exact-behind (codes "budget ") (exact-where (leb 1) (number_exact 8388609 (omega arith)))
