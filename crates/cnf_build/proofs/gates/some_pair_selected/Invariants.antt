use Rattle.std.proofs.Common.{◌≡◌, ◌+◌, [], ◌∷◌}
use Rattle.cpog_defs.specs.Orders.{each_below}
use Rattle.gate_template.specs.Variables.{Sel, pairs_from}
use Rattle.gate_template.specs.Families.{as_clause, plain}
use Rattle.cnf_build.proofs.gates.some_pair_selected.Given as goal

abbrev pub invariant-loop-j : goal.invariant-loop-j
invariant-loop-j l = l.lits.items ≡ as_clause l.numbers (each_below (pairs_from (λ j k. plain (Sel l.g j k) ∷ []) (l.numbers.bits + l.g)) l.j)
