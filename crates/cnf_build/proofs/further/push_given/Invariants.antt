use Rattle.std.proofs.Common.{◌≡◌, ◌++◌, [], slice_index_or}
use Rattle.cpog_defs.specs.Orders.{each_below}
use Rattle.gate_template.specs.Families.{as_clauses, given_pattern}
use Rattle.cnf_build.proofs.further.push_given.Given as goal

abbrev pub invariant-loop-s : goal.invariant-loop-s
invariant-loop-s l = l.clauses.clauses ≡ l.initial.clauses.clauses ++ as_clauses l.numbers (each_below (λ s. given_pattern l.numbers s (slice_index_or l.patterns s [])) l.s)
