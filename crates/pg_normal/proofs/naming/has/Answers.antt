use Rattle.std.specs.Prelude.{is_some}
use Rattle.std.proofs.Common.{ap, ◌∙◌}
use Rattle.pg_normal.proofs.NamingLemmas.{has_place}
use Rattle.pg_normal.proofs.naming.has.Goals as goal

pub returns : goal.returns
returns c = c.is_some.ensures ∙ ap is_some c.find.ensures ∙ has_place c.args.names.now c.args.name.now
