use Rattle.std.proofs.Common.{◌<◌, ◌∙◌, ap, length, arith, slice_set}
use Rattle.cpog_base.specs.ColumnLaws.{length-entries}
use Rattle.cpog_base.proofs.ColumnLemmas.{one_is, zero_is, words_after, entries_after}
use Rattle.cpog_base.proofs.column.Column.set.Goals as goal

pub with_bit-self-inside-requires : goal.with_bit-self-inside-requires
with_bit-self-inside-requires c = omega (arith, c.requires, c.self.invariant.few, length-entries c.self.inside.len c.self.inside.ones c.self.inside.zeros, ap length c.self.view_is)

pub with_bit-self-inside-requires-2 : goal.with_bit-self-inside-requires-2
with_bit-self-inside-requires-2 c = omega (arith, c.requires, c.self.invariant.few, length-entries c.self.inside.len c.self.inside.ones c.self.inside.zeros, ap length c.self.view_is)

pub invariant_of-self : goal.invariant_of-self
invariant_of-self c =
    let n = c.self.inside.len in
    let l : c.args.s.0 < n = omega (arith, c.requires, length-entries n c.self.inside.ones c.self.inside.zeros, ap length c.self.view_is) in
    let one = c.with_bit-self-inside in
    let zero = c.with_bit-self-inside-2 in
    words_after n c.self.inside.ones c.self.inside.zeros one.result zero.result c.args.s.0 c.args.b c.self.invariant l
    (one.ensures.same ∙ c.eq.ensures ∙ one_is c.args.b) one.ensures.others (zero.ensures.same ∙ c.eq-2.ensures ∙ zero_is c.args.b) zero.ensures.others
    (one.ensures.below n l c.self.invariant.ones_below) (zero.ensures.below n l c.self.invariant.zeros_below)

pub returns : goal.returns
returns c =
    let n = c.self.inside.len in
    let l : c.args.s.0 < n = omega (arith, c.requires, length-entries n c.self.inside.ones c.self.inside.zeros, ap length c.self.view_is) in
    let one = c.with_bit-self-inside in
    let zero = c.with_bit-self-inside-2 in
    entries_after n c.self.inside.ones c.self.inside.zeros one.result zero.result c.args.s.0 c.args.b c.self.invariant l
    (one.ensures.same ∙ c.eq.ensures ∙ one_is c.args.b) one.ensures.others (zero.ensures.same ∙ c.eq-2.ensures ∙ zero_is c.args.b) zero.ensures.others
    ∙ ap (λ xs. slice_set xs c.args.s.0 c.args.b) c.self.view_is
