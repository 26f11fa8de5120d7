use Rattle.std.proofs.Common.{◌≡◌, [], ◌∷◌, ◌++◌, ap, ◌∙◌, arith}
use Rattle.cpog_defs.specs.Orders.{each_below}
use Rattle.gate_template.specs.Variables.{X}
use Rattle.gate_template.specs.Families.{complemented, as_clauses, all_zero_clauses}
use Rattle.cnf_build.proofs.ClauseLemmas.{begin, one_more}
use Rattle.cnf_build.proofs.further.push_all_zeros.Goals as goal

pub loop-i-init : goal.loop-i-init
loop-i-init c = begin c.args.numbers.now c.args.clauses.now.clauses

pub loop-i-preserved : goal.loop-i-preserved
loop-i-preserved c = one_more c.args.numbers.now (λ i. (complemented (X 0 i) ∷ []) ∷ []) c.loop-i.i c.args.clauses.now.clauses c.loop-i.clauses.clauses c.push_zero_at.new.clauses.clauses c.loop-i.invariant (c.in_ok-push_zero_at.ensures)

pub returns : goal.returns
unfolding all_zero_clauses
returns c =
    let e : c.loop-i.i ≡ c.args.numbers.now.bits = omega (arith, ap (λ z. z.bits) c.shape-i-end.ensures.same) in
    c.loop-i.invariant ∙ ap (λ n. c.args.clauses.now.clauses ++ as_clauses c.args.numbers.now (each_below (λ i. (complemented (X 0 i) ∷ []) ∷ []) n)) e
