use Rattle.std.proofs.Common.{◌≡◌, ◌++◌, [], ◌∷◌}
use Rattle.gate_template.specs.Variables.{Sel, pairs_from}
use Rattle.gate_template.specs.Families.{as_clause, plain}
use Rattle.cnf_build.proofs.gates.push_selections_from.Given as goal

abbrev pub invariant-loop-k : goal.invariant-loop-k
invariant-loop-k l = l.lits.items ≡ l.initial.lits.items ++ as_clause l.numbers (pairs_from (λ j k. plain (Sel l.g j k) ∷ []) l.k l.j)
