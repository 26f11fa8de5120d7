use Rattle.std.specs.Prelude.{◌≡◌, ◌++◌, map, take, codes}
use Rattle.pg_text.specs.Writing.{row_text, bind_text}
use Rattle.pg_text.proofs.putting.put_bindings.Given as goal

abbrev pub invariant-bindings : goal.invariant-bindings
invariant-bindings l = l.out.items ≡ l.initial.out.items ++ row_text (codes ", ") (map bind_text (take l.i l.bindings))
