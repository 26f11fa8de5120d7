use Rattle.std.proofs.Common.{◌∙◌, refl, ap}
use Rattle.std.specs.FinSet as set
use Rattle.std.specs.Cmp.{nat_cmp_total}
use Rattle.order_reduce.proofs.covered.covered_by.Goals as goal

pub returns : goal.returns
returns c = λ u.
    ap (λ s. set.contains s u) c.difference.ensures
    ∙ set.contains-difference nat_cmp_total c.before-2.result c.before_those_before.result u
    ∙ rw (c.before-2.ensures, c.before_those_before.ensures u) refl
