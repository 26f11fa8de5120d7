use Rattle.std.proofs.Common.{◌≡◌, ℕ, [], take, map, cond, filter, slice_index}
use Rattle.cpog_defs.specs.Codes.{bit}
use Rattle.pg_normal.specs.Appearing.{has}
use Rattle.pg_normal.specs.Forms.{vertex_table, sometimes}
use Rattle.pg_normal.proofs.making.add_vertices.Given as goal

abbrev pub invariant-places : goal.invariant-places
invariant-places l = record {
  vertices : map (λ e. e.0) l.form.vertices ≡ filter (λ v. sometimes (bit (slice_index l.tables.vertices v))) (take l.i l.tables.order);
  tables : (v : ℕ) → vertex_table l.form v ≡ cond (has (take l.i l.tables.order) v) (slice_index l.tables.vertices v) 0;
  arcs : l.form.arcs ≡ [];
}
