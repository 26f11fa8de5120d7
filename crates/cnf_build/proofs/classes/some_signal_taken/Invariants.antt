use Rattle.std.proofs.Common.{◌≡◌, [], ◌∷◌}
use Rattle.cpog_defs.specs.Orders.{each_below}
use Rattle.gate_template.specs.Variables.{O}
use Rattle.gate_template.specs.Families.{as_clause, plain}
use Rattle.cnf_build.proofs.classes.some_signal_taken.Given as goal

abbrev pub invariant-loop-n : goal.invariant-loop-n
invariant-loop-n l = l.lits.items ≡ as_clause l.numbers (each_below (λ n. plain (O l.c n) ∷ []) l.n)
