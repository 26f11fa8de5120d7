use Rattle.std.specs.Prelude.{◌≡◌, ◌++◌, map, take, codes}
use Rattle.pg_text.specs.Writing.{row_text}
use Rattle.pg_normal.specs.Writing.{literal_text}
use Rattle.pg_normal.proofs.writing.put_valuation.Given as goal

abbrev pub invariant-parameters : goal.invariant-parameters
invariant-parameters l = l.out.items ≡ l.initial.out.items ++ row_text (codes " & ") (map (literal_text l.params l.n) (take l.i l.numbers))
