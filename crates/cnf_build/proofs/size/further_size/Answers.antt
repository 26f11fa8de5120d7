use Rattle.std.proofs.Common.{◌+◌, ap, ap₂, sym, ◌∙◌, arith}
use Rattle.gate_template.specs.Counts.{further_count}
use Rattle.cnf_build.proofs.size.further_size.Goals as goal

pub overflow_add-result : goal.overflow_add-result
overflow_add-result c = omega (arith, c.all_given_entries.ensures.few, c.bits_left.ensures.few)

pub returns-in-First-clause-count : goal.returns-in-First-clause-count
unfolding further_count
returns-in-First-clause-count c = ap (λ k. further_count k c.args.bits c.args.patterns.now) (sym c.in-First.is)

pub returns-in-Second-clause-count : goal.returns-in-Second-clause-count
unfolding further_count
returns-in-Second-clause-count c = c.from.ensures ∙ ap (λ k. further_count k c.args.bits c.args.patterns.now) (sym c.in-Second.is)

pub returns-in-Third-clause-count : goal.returns-in-Third-clause-count
unfolding further_count
returns-in-Third-clause-count c = ap₂ (λ a b. a + b) c.all_given_entries.ensures.count c.bits_left.ensures.count ∙ ap (λ k. further_count k c.args.bits c.args.patterns.now) (sym c.in-Third.is)

pub returns-in-Third-clause-few : goal.returns-in-Third-clause-few
returns-in-Third-clause-few c = omega (arith, c.all_given_entries.ensures.few, c.bits_left.ensures.few)
