use Rattle.std.specs.Prelude.{codes, refl}
use Rattle.std.proofs.Common.{get_or}
use Rattle.pg_normal.specs.Writing.{vertex_term}
use Rattle.pg_text.proofs.RowTexts.{put_more}
use Rattle.pg_normal.proofs.writing.put_vertices.Goals as goal

pub vertices-preserved : goal.vertices-preserved
vertices-preserved c =
    put_more (vertex_term c.args.form.now c.args.names.now c.args.params.now)
    (codes " + ") c.args.vertices.now c.vertices.i
    (get_or c.args.vertices.now c.vertices.i 0) 0 c.args.out.now.items c.vertices.out.items c.put_if.new.out.items
    c.put_vertex.new.out.items
    c.vertices-test.true refl c.vertices.invariant c.in_ok-put_if.ensures.put c.in_ok-put_vertex.ensures
