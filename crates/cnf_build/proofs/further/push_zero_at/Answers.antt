use Rattle.std.proofs.Common.{[], ◌∷◌}
use Rattle.gate_template.specs.Variables.{X}
use Rattle.gate_template.specs.Families.{complemented}
use Rattle.cnf_build.proofs.ClauseLemmas.{one_clause, negated_is, clause1}
use Rattle.cnf_build.proofs.further.push_zero_at.Goals as goal

pub returns : goal.returns
returns c = one_clause c.args.numbers.now (complemented (X 0 c.args.i) ∷ []) c.args.clauses.now.clauses c.push.new.self.clauses _ (clause1 c.args.numbers.now (complemented (X 0 c.args.i)) c.negated.result (negated_is c.args.numbers.now (X 0 c.args.i) c.x.result c.negated.result c.negated.ensures c.x.ensures)) c.in_ok-push.ensures.ok
