use Rattle.std.proofs.Common.{subst, sym, arith, ◌∙◌}
use Rattle.cnf_build.specs.Placed.{IsShape}
use Rattle.cnf_build.proofs.BoundLemmas.{variables_bound, clauses_bound, is_shape}
use Rattle.cnf_build.proofs.FormulaLemmas.{built_within}
use Rattle.cnf_build.proofs.building.build.Goals as goal

pub new-numbers-requires : goal.new-numbers-requires
new-numbers-requires c = subst IsShape (sym c.shape_asked.ensures) (is_shape c.args.kind c.args.given.now c.args.classes.now.columns c.args.bits c.args.gates c.requires.asked c.requires.size)

pub overflow_cast-size : goal.overflow_cast-size
overflow_cast-size c = omega (arith, c.template_size-size.ensures.clauses, clauses_bound c.args.kind c.args.given.now c.args.classes.now.columns c.args.bits c.args.gates c.requires.asked, c.requires.size)

pub overflow_cast-result : goal.overflow_cast-result
overflow_cast-result c = omega (arith, c.template_size-size.ensures.variables, variables_bound c.args.kind c.args.given.now c.args.classes.now.columns c.args.bits c.args.gates c.requires.asked, c.requires.size)

pub invariant_of-result : goal.invariant_of-result
invariant_of-result c = record {
  within = built_within c.args.kind c.args.given.now c.args.classes.now.columns c.args.bits c.args.gates c.requires.asked.some c.template_size-size.result.variables c.reserve.new.self.clauses c.push_template.new.clauses.clauses c.columns.result.now c.new-numbers.result
      c.template_size-size.ensures.variables (c.in_ok-reserve.ensures.same ∙ c.new-clauses.ensures) (c.new-numbers.ensures ∙ c.shape_asked.ensures) c.columns.ensures.columns c.in_ok-push_template.ensures;
}
