use Rattle.std.specs.Prelude.{◌≡◌, ◌++◌, map, take}
use Rattle.pg_text.specs.Writing.{expr_text, row_text}
use Rattle.pg_text.proofs.writing.+expression.Given as goal

abbrev pub invariant-put_expressions-expressions : goal.invariant-put_expressions-expressions
invariant-put_expressions-expressions l = l.out.items ≡ l.initial.out.items ++ row_text l.sign (map (expr_text l.names l.position) (take l.i l.exprs))
