use Rattle.std.proofs.Common.{◌++◌, ap, ◌∙◌}
use Rattle.cpog_defs.specs.Entries.{entry_at}
use Rattle.gate_template.specs.Families.{as_clauses, given_bit}
use Rattle.cnf_build.proofs.ClauseLemmas.{begin, one_more}
use Rattle.cnf_build.proofs.further.push_given_of.Goals as goal

pub loop-i-init : goal.loop-i-init
loop-i-init c = begin c.args.numbers.now c.args.clauses.now.clauses

pub loop-i-preserved : goal.loop-i-preserved
loop-i-preserved c = one_more c.args.numbers.now (λ i. given_bit c.args.s i (entry_at c.args.pattern.now i)) c.loop-i.i c.args.clauses.now.clauses c.loop-i.clauses.clauses c.push_given_at.new.clauses.clauses c.loop-i.invariant (c.in_ok-push_given_at.ensures ∙ ap (λ e. c.loop-i.clauses.clauses ++ as_clauses c.args.numbers.now (given_bit c.args.s c.loop-i.i e)) c.given_at.ensures)
