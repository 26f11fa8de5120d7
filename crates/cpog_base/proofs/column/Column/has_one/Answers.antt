use Rattle.std.proofs.Common.{ap, ◌∙◌}
use Rattle.std.specs.List.{list_any}
use Rattle.cpog_base.specs.Column.{is_one}
use Rattle.cpog_base.proofs.ColumnLemmas.{has_one_tells}
use Rattle.cpog_base.proofs.column.Column.has_one.Goals as goal

pub returns : goal.returns
returns c = has_one_tells c.self.inside.len c.self.inside.ones c.self.inside.zeros c.self.invariant ∙ ap (list_any is_one) c.self.view_is
