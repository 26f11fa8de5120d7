use Rattle.std.proofs.Common.{ap, ◌∙◌, length}
use Rattle.pg_normal.proofs.BindingLemmas.{form_is_below, binding_is_few}
use Rattle.pg_normal.proofs.tests.has_instance.Goals as goal

pub instance-requires-clause-below : goal.instance-requires-clause-below
instance-requires-clause-below c =
    form_is_below c.in-Ok.file c.in-Ok-normals.list.normals 0 c.len-count.result c.form.result.now
    (c.as_bytes.result.now, c.in-Ok.ensures.ok) c.in-Ok-normals.ensures.ok c.form.ensures (c.len-count.ensures.len
    ∙ ap length c.operations.ensures)

pub instance-requires-clause-values : goal.instance-requires-clause-values
instance-requires-clause-values c = binding_is_few c.in-Ok.file c.in-Ok-normals.list.normals 0 c.bound.result (c.as_bytes.result.now, c.in-Ok.ensures.ok) c.in-Ok-normals.ensures.ok c.bound.ensures
