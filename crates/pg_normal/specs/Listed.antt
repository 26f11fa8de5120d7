-- A list of normal forms.
use Rattle.std.specs.Prelude.{List}
use Rattle.pg_normal.specs.declared.normal.Normal.{Normal}

-- normal forms in their order, each with the parameters that its statement binds
pub record Listed : Type 0 where
  pub normals : List Normal
