use Rattle.std.proofs.Common.{◌≡◌, [], ◌∷◌, ◌++◌, sym, subst}
use Rattle.gate_template.specs.Variables.{X}
use Rattle.gate_template.specs.Families.{plain, complemented, as_clauses, given_bit}
use Rattle.cnf_build.proofs.ClauseLemmas.{begin, one_clause, negated_is, clause1}
use Rattle.cnf_build.proofs.further.push_given_at.Goals as goal

pub returns-in-Free : goal.returns-in-Free
returns-in-Free c = subst (λ e. c.args.clauses.now.clauses ≡ c.args.clauses.now.clauses ++ as_clauses c.args.numbers.now (given_bit c.args.s c.args.i e)) (sym c.in-Free.is) (begin c.args.numbers.now c.args.clauses.now.clauses)

pub returns-in_ok-push-in-One : goal.returns-in_ok-push-in-One
returns-in_ok-push-in-One c = subst (λ e. c.push.new.self.clauses ≡ c.args.clauses.now.clauses ++ as_clauses c.args.numbers.now (given_bit c.args.s c.args.i e)) (sym c.in-One.is)
    (one_clause c.args.numbers.now (plain (X c.args.s c.args.i) ∷ []) c.args.clauses.now.clauses c.push.new.self.clauses _ (clause1 c.args.numbers.now (plain (X c.args.s c.args.i)) c.x-bit.result c.x-bit.ensures) c.in_ok-push-in-One.ensures.ok)

pub returns-in_ok-push-in-Zero : goal.returns-in_ok-push-in-Zero
returns-in_ok-push-in-Zero c = subst (λ e. c.push-in-Zero.new.self.clauses ≡ c.args.clauses.now.clauses ++ as_clauses c.args.numbers.now (given_bit c.args.s c.args.i e)) (sym c.in-Zero.is)
    (one_clause c.args.numbers.now (complemented (X c.args.s c.args.i) ∷ []) c.args.clauses.now.clauses c.push-in-Zero.new.self.clauses _ (clause1 c.args.numbers.now (complemented (X c.args.s c.args.i)) c.negated.result (negated_is c.args.numbers.now (X c.args.s c.args.i) c.x-bit.result c.negated.result c.negated.ensures c.x-bit.ensures)) c.in_ok-push-in-Zero.ensures.ok)
