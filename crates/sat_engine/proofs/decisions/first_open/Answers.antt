use Rattle.std.proofs.Common.{ap}
use Rattle.clause_arena.specs.Clauses.{Lit}
use Rattle.sat_engine.proofs.FullLemmas.{owned_more}
use Rattle.sat_engine.proofs.decisions.first_open.Goals as goal

pub variables-preserved : goal.variables-preserved
variables-preserved c =
    owned_more c.args.trail.now.entries c.variables.before c.from_var-lit.result _ (ap (λ (l : Lit). l.var) c.from_var-lit.ensures) c.in-Some.ensures c.variables.invariant
