use Rattle.std.specs.Prelude.{◌≡◌, take}
use Rattle.pg_normal.specs.Writing.{vertices_of}
use Rattle.pg_normal.proofs.writing.vertices_of.Given as goal

abbrev pub invariant-vertices : goal.invariant-vertices
invariant-vertices l = l.vertices.items ≡ take l.i (vertices_of l.form)
