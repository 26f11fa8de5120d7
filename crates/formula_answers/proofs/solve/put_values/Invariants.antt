use Rattle.std.proofs.Common.{◌≡◌, ◌++◌, string_bytes, map, take}
use Rattle.dimacs_text.specs.Logs.{lit_word}
use Rattle.dimacs_text.specs.Writing.{blanked}
use Rattle.formula_answers.specs.Solved.{true_literals}
use Rattle.formula_answers.proofs.solve.put_values.Given as goal

abbrev pub invariant-values : goal.invariant-values
invariant-values l = string_bytes l.out ≡ string_bytes l.initial.out ++ blanked (map lit_word (true_literals 1 (take l.i l.values)))
