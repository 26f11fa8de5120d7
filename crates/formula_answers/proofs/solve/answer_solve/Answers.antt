use Rattle.std.proofs.Common.{refl, inr}
use Rattle.formula_answers.proofs.SolvedLemmas.{outcome_found}
use Rattle.formula_answers.proofs.solve.answer_solve.Goals as goal

pub returns-clause-ok : goal.returns-clause-ok
returns-clause-ok c =
    let f = c.in_ok-formula.formula in
    inr (
      refl,
      record {
        variables = f.variables;
        clauses = f.clauses.clauses;
        spells = c.in_ok-formula.ensures.spells;
        few = c.in_ok-formula.ensures.few;
        found = outcome_found c.args.budget f.variables f.clauses.clauses c.in_ok-outcome.outcome c.in_ok-output.output.items c.in_ok-formula.ensures.few c.in_ok-outcome.ensures c.in_ok-output.ensures.text c.in_ok-output.ensures.written;
      },
    )
