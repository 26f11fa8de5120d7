-- What is read of the literals of a log.
use Rattle.std.specs.Prelude.{◌<◌}
use Rattle.std.specs.List.{AllByRecursion}
use Rattle.clause_arena.specs.Clauses.{Lit}
use Rattle.proof_check.specs.Lines.{Line}

-- a literal's variable is above 0
abbrev pub HasVariable : Lit → Type 0
HasVariable l = 0 < l.var

-- those of the literals of an addition are
abbrev pub has_variables : Line → Type 0
has_variables (Line.Add id lits hints) = AllByRecursion HasVariable lits
has_variables (Line.Del ids) = Unit {0}
