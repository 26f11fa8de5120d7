use Rattle.std.proofs.Common.{◌≡◌, ◌++◌, [], ◌∷◌}
use Rattle.cpog_defs.specs.Orders.{each_below}
use Rattle.gate_template.specs.Variables.{X}
use Rattle.gate_template.specs.Families.{as_clauses, complemented}
use Rattle.cnf_build.proofs.further.push_all_zeros.Given as goal

abbrev pub invariant-loop-i : goal.invariant-loop-i
invariant-loop-i l = l.clauses.clauses ≡ l.initial.clauses.clauses ++ as_clauses l.numbers (each_below (λ i. (complemented (X 0 i) ∷ []) ∷ []) l.i)
