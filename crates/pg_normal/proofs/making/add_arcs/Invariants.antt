use Rattle.std.proofs.Common.{◌≡◌, ℕ, nat_lt, cond}
use Rattle.pg_normal.specs.Forms.{arc_table}
use Rattle.pg_normal.specs.Known.{entry}
use Rattle.pg_normal.proofs.making.add_arcs.Given as goal

abbrev pub invariant-firsts : goal.invariant-firsts
invariant-firsts l = record {
  vertices : l.form.vertices ≡ l.fn.form.vertices;
  arcs : (a b : ℕ) → arc_table l.form a b ≡ cond (nat_lt a l.u) (entry l.tables.arcs a b) 0;
}
