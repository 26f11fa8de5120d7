use Rattle.std.proofs.Common.{◌≡◌, [], ◌∷◌}
use Rattle.cpog_defs.specs.Orders.{each_below}
use Rattle.gate_template.specs.Variables.{D}
use Rattle.gate_template.specs.Families.{as_clause, plain}
use Rattle.cnf_build.proofs.codes.some_bit_differs.Given as goal

abbrev pub invariant-loop-i : goal.invariant-loop-i
invariant-loop-i l = l.lits.items ≡ as_clause l.numbers (each_below (λ i. plain (D l.s l.t i) ∷ []) l.i)
