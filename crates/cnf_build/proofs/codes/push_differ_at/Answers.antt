use Rattle.std.proofs.Common.{[], ◌∷◌}
use Rattle.gate_template.specs.Variables.{X, D}
use Rattle.gate_template.specs.Families.{plain, complemented}
use Rattle.cnf_build.proofs.ClauseLemmas.{behind, one_clause, negated_is, clause3}
use Rattle.cnf_build.proofs.codes.push_differ_at.Goals as goal

pub returns : goal.returns
returns c =
    let z = c.args.numbers.now in
    let no_d = negated_is z (D c.args.s c.args.t c.args.i) c.d.result c.negated-differ.result c.negated-differ.ensures c.d.ensures in
    let first = clause3 z (complemented (D c.args.s c.args.t c.args.i)) (plain (X c.args.s c.args.i)) (plain (X c.args.t c.args.i)) c.negated-differ.result c.x-first.result c.x-second.result no_d c.x-first.ensures c.x-second.ensures in
    let second = clause3 z (complemented (D c.args.s c.args.t c.args.i)) (complemented (X c.args.s c.args.i)) (complemented (X c.args.t c.args.i)) c.negated-differ.result c.negated.result c.negated-2.result no_d
    (negated_is z (X c.args.s c.args.i) c.x-first.result c.negated.result c.negated.ensures c.x-first.ensures) (negated_is z (X c.args.t c.args.i) c.x-second.result c.negated-2.result c.negated-2.ensures c.x-second.ensures) in
    behind z (_ ∷ []) (_ ∷ []) c.args.clauses.now.clauses c.push.new.self.clauses c.push-2.new.self.clauses
    (one_clause z _ _ _ _ first c.in_ok-push.ensures.ok) (one_clause z _ _ _ _ second c.in_ok-push-2.ensures.ok)
