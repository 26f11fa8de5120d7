use Rattle.std.specs.Prelude.{[], ◌∷◌, ◌++◌}
use Rattle.std.proofs.Common.{sym, ap, ◌∙◌}
use Rattle.pg_normal.proofs.WritingLemmas.{vertex_read}
use Rattle.pg_normal.proofs.writing.vertices_of.Goals as goal

pub vertices-preserved : goal.vertices-preserved
vertices-preserved c =
    c.in_ok-push.ensures.items ∙ ap (λ vs. vs ++ c.vertex.result ∷ []) c.vertices.invariant
    ∙ sym (vertex_read c.args.form.now.vertices c.vertices.i c.vertex.result c.vertex.ensures)
