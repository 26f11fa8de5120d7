use Rattle.std.proofs.Common.{◌≡◌, sym, ap, ◌∙◌, length, arith}
use Rattle.cpog_base.specs.ColumnLaws.{length-entries}
use Rattle.cpog_base.proofs.column.Column.len.Goals as goal

pub returns : goal.returns
returns c =
    let size : c.self.inside.len ≡ length c.args.self.now = sym (length-entries c.self.inside.len c.self.inside.ones c.self.inside.zeros) ∙ ap length c.self.view_is in
    record { len = size; few = omega (arith, c.self.invariant.few) }
