use Rattle.std.specs.Prelude.{◌≡◌, ◌++◌, map, take, codes}
use Rattle.pg_text.specs.Writing.{row_text}
use Rattle.pg_normal.specs.Writing.{valuation_text}
use Rattle.pg_normal.proofs.writing.put_valuations.Given as goal

abbrev pub invariant-valuations : goal.invariant-valuations
invariant-valuations l = l.out.items ≡ l.initial.out.items ++ row_text (codes " | ") (map (valuation_text l.params l.numbers) (take l.i l.valuations))
