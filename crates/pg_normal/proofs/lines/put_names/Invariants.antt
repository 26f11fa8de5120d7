use Rattle.std.specs.Prelude.{◌≡◌, ◌++◌, map, take, codes}
use Rattle.pg_text.specs.Writing.{row_text}
use Rattle.pg_normal.proofs.lines.put_names.Given as goal

abbrev pub invariant-names : goal.invariant-names
invariant-names l = l.out.items ≡ l.initial.out.items ++ row_text (codes ", ") (map (λ w. w) (take l.i l.names))
