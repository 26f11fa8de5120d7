use Rattle.std.specs.Prelude.{◌≡◌, ◌++◌, take, codes}
use Rattle.pg_text.specs.Writing.{rest_text}
use Rattle.pg_normal.specs.Writing.{arc_terms_from}
use Rattle.pg_normal.proofs.writing.put_arcs_from.Given as goal

abbrev pub invariant-seconds : goal.invariant-seconds
invariant-seconds l = l.out.items ≡ l.initial.out.items ++ rest_text (codes " + ") (arc_terms_from l.form l.names l.params (take l.v-index l.vertices) l.u)
