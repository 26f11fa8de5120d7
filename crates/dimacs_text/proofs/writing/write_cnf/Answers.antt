use Rattle.std.proofs.Common.{arith, ap, ◌∙◌, ℕ, Vec, Global}
use Rattle.dimacs_text.proofs.StreamLemmas.{clauses_within}
use Rattle.dimacs_text.proofs.WritingLemmas.{cnf_spelled}
use Rattle.dimacs_text.proofs.writing.write_cnf.Goals as goal

pub returns-clause-spells : goal.returns-clause-spells
returns-clause-spells c =
    cnf_spelled c.args.comment.now _ c.args.cnf.now.variables c.args.cnf.now.clauses.clauses (ap (λ (v : Vec ℕ Global). v.items) c.into_bytes.ensures.value ∙ c.in_ok-text.ensures.text) c.requires (omega (arith, c.in_ok-text.ensures.few_variables)) (omega (arith, c.in_ok-text.ensures.few)) (clauses_within c.args.cnf.now.variables c.args.cnf.now.clauses.clauses c.args.cnf.now.within)
