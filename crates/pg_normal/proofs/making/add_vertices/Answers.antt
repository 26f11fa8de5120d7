use Rattle.std.proofs.Common.{sym, ◌∙◌, ap, cond, map, slice_index, arith}
use Rattle.cpog_defs.specs.Codes.{bit}
use Rattle.pg_normal.specs.Forms.{vertex_table, sometimes}
use Rattle.pg_normal.proofs.MakingLemmas.{not_yet, keys_added, keys_skipped, table_added, table_skipped, sometimes-word, sometimes-zero}
use Rattle.pg_normal.proofs.making.add_vertices.Goals as goal
use Rattle.pg_normal.proofs.making.add_vertices.Goals.{then-table-ne0+in_ok-add_vertex, else-table-ne0}

pub add_vertex-requires-clause-new : goal.add_vertex-requires-clause-new
add_vertex-requires-clause-new c = c.places.invariant.tables c.get-v.result
    ∙ ap (λ b. cond b (slice_index c.args.tables.now.vertices c.get-v.result) 0) (not_yet c.args.tables.now.order c.places.i c.get-v.result c.get-v.ensures c.len-i-end.ensures.distinct)

pub places-preserved : goal.places-preserved
places-preserved c = elim c.if-table-ne0.branch [
  | then-table-ne0+in_ok-add_vertex w ↦ record {
    vertices = ap (λ f. map (λ e. e.0) f.vertices) (w.form-is ∙ w.in_ok-add_vertex.ensures.ok)
        ∙ keys_added c.args.tables.now.order c.places.i c.get-v.result c.get-v.ensures
        (λ v. sometimes (bit (slice_index c.args.tables.now.vertices v))) c.places.form.vertices
        (record { 0 = c.get-table.result })
        (ap (λ y. sometimes (bit y)) (sym c.get-table.ensures) ∙ sometimes-word c.get-table.result (w.if-table-ne0.true, omega arith)) c.places.invariant.vertices;
    tables =
        λ v. table_added c.args.tables.now.order c.places.i c.get-v.result c.get-v.ensures c.args.tables.now.vertices
        (vertex_table c.places.form v) (vertex_table c.if-table-ne0.form v) c.get-table.result v
        c.get-table.ensures (ap (λ f. vertex_table f v) w.form-is ∙ w.in_ok-add_vertex.ensures.tables v) (c.places.invariant.tables v);
    arcs = ap (λ f. f.arcs) (w.form-is ∙ w.in_ok-add_vertex.ensures.ok) ∙ c.places.invariant.arcs;
  }
  | else-table-ne0 w ↦ record {
    vertices = ap (λ f. map (λ e. e.0) f.vertices) w.form-is
        ∙ keys_skipped c.args.tables.now.order c.places.i c.get-v.result c.get-v.ensures (λ v. sometimes (bit (slice_index c.args.tables.now.vertices v))) (map (λ e. e.0) c.places.form.vertices)
        (sometimes-zero (slice_index c.args.tables.now.vertices c.get-v.result) (sym c.get-table.ensures ∙ w.if-table-ne0.false)) c.places.invariant.vertices;
    tables = λ v. ap (λ f. vertex_table f v) w.form-is
        ∙ table_skipped c.args.tables.now.order c.places.i c.get-v.result c.get-v.ensures c.args.tables.now.vertices
        (vertex_table c.places.form v) v (sym c.get-table.ensures
        ∙ w.if-table-ne0.false) (c.places.invariant.tables v);
    arcs = ap (λ f. f.arcs) w.form-is ∙ c.places.invariant.arcs;
  }
]
