use Rattle.std.proofs.Common.{subst, arith}
use Rattle.pg_normal.specs.Forms.{vertex_table}
use Rattle.pg_normal.specs.Changes.{Keeps}
use Rattle.pg_normal.proofs.ListedLemmas.{all_more, all_vertices_keep}
use Rattle.pg_normal.proofs.instances.vertices_change.Goals as goal

pub vertices-preserved : goal.vertices-preserved
vertices-preserved c = all_more (λ v. Keeps (vertex_table c.args.form.now v) c.args.k c.args.among.0) c.args.form.now.vertices c.vertices.i c.vertex-v.result c.vertex-v.ensures
    (subst (λ t. Keeps t c.args.k c.args.among.0) c.vertex_table.ensures c.if-changes.ensures) c.vertices.invariant

pub returns : goal.returns
returns c = all_vertices_keep c.args.form.now c.args.k c.args.among.0 c.vertices.i (omega (arith, c.vertices-i-end.ensures.len, c.vertices-test.false)) c.vertices.invariant
