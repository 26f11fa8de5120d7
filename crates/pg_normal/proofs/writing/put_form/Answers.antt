use Rattle.std.specs.Prelude.{length}
use Rattle.std.proofs.Common.{ap, sym, ◌∙◌}
use Rattle.pg_text.proofs.RowTexts.{on_ok}
use Rattle.pg_normal.specs.Writing.{vertex_term, arc_terms_from, vertices_of}
use Rattle.pg_normal.proofs.WritingLemmas.{written_sum}
use Rattle.pg_normal.proofs.writing.put_form.Goals as goal

pub returns : goal.returns
returns c = on_ok c.put_arcs.result c.put_arcs.new.out.items _ _
    (written_sum c.args.out.now.items (vertex_term c.args.form.now c.args.names.now c.args.params.now) (arc_terms_from c.args.form.now c.args.names.now c.args.params.now) (vertices_of c.args.form.now)
    c.deref.result.now c.deref-2.result.now c.len.result c.put_if.new.out.items c.put_vertices.new.out.items
    (c.deref.ensures.value ∙ c.in_ok-vertices.ensures) (c.deref-2.ensures.value
    ∙ c.in_ok-vertices.ensures) (c.len.ensures ∙ sym c.deref.ensures.len
    ∙ ap length (c.deref.ensures.value ∙ c.in_ok-vertices.ensures)) c.in_ok-put_if.ensures.put
    c.in_ok-put_vertices.ensures)
    c.put_arcs.ensures
