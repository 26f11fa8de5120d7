use Rattle.std.proofs.Common.{◌≡◌, ◌++◌}
use Rattle.cpog_defs.specs.Orders.{each_below}
use Rattle.cpog_defs.specs.Entries.{entry_at}
use Rattle.gate_template.specs.Families.{as_clauses, given_bit}
use Rattle.cnf_build.proofs.further.push_given_of.Given as goal

abbrev pub invariant-loop-i : goal.invariant-loop-i
invariant-loop-i l = l.clauses.clauses ≡ l.initial.clauses.clauses ++ as_clauses l.numbers (each_below (λ i. given_bit l.s i (entry_at l.pattern i)) l.i)
