use Rattle.std.specs.Prelude.{◌≡◌, if◌then◌else◌, [], ◌∷◌}
use Rattle.cpog_defs.specs.Orders.{each_below}
use Rattle.pg_normal.specs.Writing.{depends}
use Rattle.pg_normal.proofs.writing.needed.Given as goal

abbrev pub invariant-parameters : goal.invariant-parameters
invariant-parameters l = l.numbers.items ≡ each_below (λ k. if depends l.table.0 k then k ∷ [] else []) l.k
