use Rattle.std.proofs.Common.{◌≡◌, [], ◌++◌, sym, ap, ◌∙◌, arith, get_or}
use Rattle.cpog_defs.specs.Orders.{each_below}
use Rattle.gate_template.specs.Families.{as_clauses, given_pattern, given_clauses}
use Rattle.cnf_build.proofs.ClauseLemmas.{begin, one_more}
use Rattle.cnf_build.proofs.further.push_given.Goals as goal
use Rattle.cnf_build.proofs.ItemLemmas.{item_is}

pub loop-s-init : goal.loop-s-init
loop-s-init c = begin c.args.numbers.now c.args.clauses.now.clauses

pub loop-s-preserved : goal.loop-s-preserved
loop-s-preserved c = one_more c.args.numbers.now (λ s. given_pattern c.args.numbers.now s (get_or c.args.patterns.now s [])) c.loop-s.s c.args.clauses.now.clauses c.loop-s.clauses.clauses c.push_given_of.new.clauses.clauses c.loop-s.invariant (c.in_ok-push_given_of.ensures ∙ ap (λ p. c.loop-s.clauses.clauses ++ as_clauses c.args.numbers.now (given_pattern c.args.numbers.now c.loop-s.s p)) (sym (item_is c.args.patterns.now c.loop-s.s c.index-patterns-s.result (omega (arith, c.requires.one_each, ap (λ z. z.scenarios) c.shape-s-end.ensures.same)) c.index-patterns-s.is)))

pub returns : goal.returns
unfolding given_clauses
returns c =
    let e : c.loop-s.s ≡ c.args.numbers.now.scenarios = omega (arith, ap (λ z. z.scenarios) c.shape-s-end.ensures.same) in
    c.loop-s.invariant ∙ ap (λ n. c.args.clauses.now.clauses ++ as_clauses c.args.numbers.now (each_below (λ s. given_pattern c.args.numbers.now s (get_or c.args.patterns.now s [])) n)) e
