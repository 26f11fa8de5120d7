use Rattle.std.specs.Prelude.{◌≡◌, not, ◌||◌}
use Rattle.cpog_defs.specs.Codes.{bit}
use Rattle.cpog_defs.specs.Orders.{all_below}
use Rattle.pg_normal.specs.Writing.{depends}
use Rattle.pg_normal.proofs.writing.sets_needed.Given as goal

abbrev pub invariant-parameters : goal.invariant-parameters
invariant-parameters l = l.all ≡ all_below (λ k. not (bit l.n k) || depends l.table.0 k) l.k
