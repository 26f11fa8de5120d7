use Rattle.std.specs.Prelude.{◌≡◌, ◌++◌, map, take, codes}
use Rattle.pg_text.specs.Writing.{row_text}
use Rattle.pg_normal.specs.Writing.{vertex_term}
use Rattle.pg_normal.proofs.writing.put_vertices.Given as goal

abbrev pub invariant-vertices : goal.invariant-vertices
invariant-vertices l = l.out.items ≡ l.initial.out.items ++ row_text (codes " + ") (map (vertex_term l.form l.names l.params) (take l.i l.vertices))
