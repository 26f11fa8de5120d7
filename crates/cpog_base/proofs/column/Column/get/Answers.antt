use Rattle.std.proofs.Common.{◌∙◌, sym, ap, length, arith, refl}
use Rattle.cpog_base.specs.ColumnLaws.{length-entries}
use Rattle.cpog_base.proofs.ColumnLemmas.{read_entry}
use Rattle.cpog_base.proofs.column.Column.get.Goals as goal

pub has_bit-requires : goal.has_bit-requires
has_bit-requires c = omega (arith, c.requires, c.self.invariant.few, length-entries c.self.inside.len c.self.inside.ones c.self.inside.zeros, ap length c.self.view_is)

pub has_bit-requires-else-has_bit : goal.has_bit-requires-else-has_bit
has_bit-requires-else-has_bit c = omega (arith, c.requires, c.self.invariant.few, length-entries c.self.inside.len c.self.inside.ones c.self.inside.zeros, ap length c.self.view_is)

pub returns-then-has_bit : goal.returns-then-has_bit
returns-then-has_bit c =
    read_entry c.self.inside.len c.self.inside.ones c.self.inside.zeros c.args.s.0 _ c.self.view_is c.requires ∙ rw (sym c.has_bit.ensures ∙ c.if-has_bit.true) refl

pub returns-then-has_bit-2 : goal.returns-then-has_bit-2
returns-then-has_bit-2 c =
    read_entry c.self.inside.len c.self.inside.ones c.self.inside.zeros c.args.s.0 _ c.self.view_is c.requires
    ∙ rw (sym c.has_bit.ensures ∙ c.if-has_bit.false, sym c.has_bit-else-has_bit.ensures ∙ c.if-has_bit-2.true) refl

pub returns-else-has_bit-2 : goal.returns-else-has_bit-2
returns-else-has_bit-2 c =
    read_entry c.self.inside.len c.self.inside.ones c.self.inside.zeros c.args.s.0 _ c.self.view_is c.requires
    ∙ rw (sym c.has_bit.ensures ∙ c.if-has_bit.false, sym c.has_bit-else-has_bit.ensures ∙ c.if-has_bit-2.false) refl
