use Rattle.std.proofs.Common.{◌≡◌, [], ◌∷◌, ◌++◌, if◌then◌else◌, sym, subst}
use Rattle.gate_template.specs.Variables.{X}
use Rattle.gate_template.specs.Families.{complemented, as_clauses}
use Rattle.cnf_build.proofs.ClauseLemmas.{begin}
use Rattle.cnf_build.proofs.further.push_zero_unless.Goals as goal

pub returns-then-given : goal.returns-then-given
returns-then-given c = subst (λ b. c.args.clauses.now.clauses ≡ c.args.clauses.now.clauses ++ as_clauses c.args.numbers.now (if b then [] else (complemented (X 0 c.args.i) ∷ []) ∷ [])) (sym c.if-given.true) (begin c.args.numbers.now c.args.clauses.now.clauses)
