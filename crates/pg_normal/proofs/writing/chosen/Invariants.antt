use Rattle.std.specs.Prelude.{◌≡◌, ◌&&◌, if◌then◌else◌, [], ◌∷◌}
use Rattle.cpog_defs.specs.Codes.{bit}
use Rattle.cpog_defs.specs.Orders.{each_below}
use Rattle.pg_normal.specs.Writing.{sets_needed}
use Rattle.pg_normal.proofs.writing.chosen.Given as goal

abbrev pub invariant-valuations : goal.invariant-valuations
invariant-valuations l = l.numbers.items ≡ each_below (λ n. if bit l.table.0 n && sets_needed l.table.0 n then n ∷ [] else []) l.n
