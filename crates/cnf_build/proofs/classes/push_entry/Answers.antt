use Rattle.std.proofs.Common.{◌≡◌, [], ◌∷◌, ◌++◌, sym, subst}
use Rattle.gate_template.specs.Variables.{O, P, value_var}
use Rattle.gate_template.specs.Families.{plain, complemented, as_clauses, class_clauses_at}
use Rattle.cnf_build.proofs.ClauseLemmas.{begin, behind, one_clause, negated_is, clause3}
use Rattle.cnf_build.proofs.classes.push_entry.Goals as goal
use Rattle.gate_template.specs.Variables.{Var}

pub returns-in-Free : goal.returns-in-Free
returns-in-Free c = subst (λ e. c.args.clauses.now.clauses ≡ c.args.clauses.now.clauses ++ as_clauses c.args.numbers.now (class_clauses_at c.args.numbers.now c.args.c c.args.n c.args.s e)) (sym c.in-Free.is) (begin c.args.numbers.now c.args.clauses.now.clauses)

pub returns-in_ok-push-in-One-2 : goal.returns-in_ok-push-in-One-2
returns-in_ok-push-in-One-2 c =
    let z = c.args.numbers.now in
    let o : Var = O c.args.c c.args.n in
    let v : Var = value_var z c.args.n c.args.s in
    let p : Var = P c.args.c in
    let no_o = negated_is z o c.o.result c.negated-taken.result c.negated-taken.ensures c.o.ensures in
    let no_v = negated_is z v c.value-value.result c.negated.result c.negated.ensures c.value-value.ensures in
    let no_p = negated_is z p c.p-sign.result c.negated-in-One.result c.negated-in-One.ensures c.p-sign.ensures in
    subst (λ e. c.push-in-One.new.self.clauses ≡ c.args.clauses.now.clauses ++ as_clauses z (class_clauses_at z c.args.c c.args.n c.args.s e)) (sym c.in-One.is)
    (behind z (_ ∷ []) (_ ∷ []) c.args.clauses.now.clauses c.push.new.self.clauses c.push-in-One.new.self.clauses
    (one_clause z _ _ _ _ (clause3 z (complemented o) (plain v) (plain p) c.negated-taken.result c.value-value.result c.p-sign.result no_o c.value-value.ensures c.p-sign.ensures) c.in_ok-push-in-One.ensures.ok)
    (one_clause z _ _ _ _ (clause3 z (complemented o) (complemented v) (complemented p) c.negated-taken.result c.negated.result c.negated-in-One.result no_o no_v no_p) c.in_ok-push-in-One-2.ensures.ok))

pub returns-in_ok-push-in-Zero-2 : goal.returns-in_ok-push-in-Zero-2
returns-in_ok-push-in-Zero-2 c =
    let z = c.args.numbers.now in
    let o : Var = O c.args.c c.args.n in
    let v : Var = value_var z c.args.n c.args.s in
    let p : Var = P c.args.c in
    let no_o = negated_is z o c.o.result c.negated-taken.result c.negated-taken.ensures c.o.ensures in
    let no_v = negated_is z v c.value-value.result c.negated-in-Zero.result c.negated-in-Zero.ensures c.value-value.ensures in
    let no_p = negated_is z p c.p-sign.result c.negated-in-Zero-2.result c.negated-in-Zero-2.ensures c.p-sign.ensures in
    subst (λ e. c.push-in-Zero-2.new.self.clauses ≡ c.args.clauses.now.clauses ++ as_clauses z (class_clauses_at z c.args.c c.args.n c.args.s e)) (sym c.in-Zero.is)
    (behind z (_ ∷ []) (_ ∷ []) c.args.clauses.now.clauses c.push-in-Zero.new.self.clauses c.push-in-Zero-2.new.self.clauses
    (one_clause z _ _ _ _ (clause3 z (complemented o) (complemented v) (plain p) c.negated-taken.result c.negated-in-Zero.result c.p-sign.result no_o no_v c.p-sign.ensures) c.in_ok-push-in-Zero.ensures.ok)
    (one_clause z _ _ _ _ (clause3 z (complemented o) (plain v) (complemented p) c.negated-taken.result c.value-value.result c.negated-in-Zero-2.result no_o c.value-value.ensures no_p) c.in_ok-push-in-Zero-2.ensures.ok))
