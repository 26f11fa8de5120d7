use Rattle.std.proofs.Common.{◌≡◌, ◌==◌, ◌&&◌, ℕ, nat_lt, cond}
use Rattle.pg_normal.specs.Forms.{arc_table}
use Rattle.pg_normal.specs.Known.{entry}
use Rattle.pg_normal.proofs.making.add_arcs_from.Given as goal

abbrev pub invariant-seconds : goal.invariant-seconds
invariant-seconds l = record {
  vertices : l.form.vertices ≡ l.fn.form.vertices;
  arcs : (a b : ℕ) → arc_table l.form a b ≡ cond ((a == l.u) && nat_lt b l.v) (entry l.tables.arcs a b) (arc_table l.fn.form a b);
}
