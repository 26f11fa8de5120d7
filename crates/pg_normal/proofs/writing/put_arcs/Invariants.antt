use Rattle.std.specs.Prelude.{◌≡◌, ◌++◌, take, codes}
use Rattle.std.specs.List.{flat_map}
use Rattle.pg_text.specs.Writing.{rest_text}
use Rattle.pg_normal.specs.Writing.{arc_terms_from}
use Rattle.pg_normal.proofs.writing.put_arcs.Given as goal

abbrev pub invariant-firsts : goal.invariant-firsts
invariant-firsts l = l.out.items ≡ l.initial.out.items ++ rest_text (codes " + ") (flat_map (arc_terms_from l.form l.names l.params l.vertices) (take l.u-index l.vertices))
