use Rattle.std.proofs.Common.{refl, sym, ap, ◌∙◌}
use Rattle.std.specs.Ordering.{nat_cmp}
use Rattle.std.specs.FinSet as set
use Rattle.handshake_eqs.proofs.steps.returning.Goals as goal

pub returns-then-count-eq0 : goal.returns-then-count-eq0
returns-then-count-eq0 c = set.empty_of_len c.args.acked (sym c.count.ensures ∙ c.if-count-eq0.true)

pub returns-else-count-eq0 : goal.returns-else-count-eq0
returns-else-count-eq0 c = (refl, refl, λ none. c.if-count-eq0.false (c.count.ensures ∙ ap set.len none ∙ set.len-empty nat_cmp))
