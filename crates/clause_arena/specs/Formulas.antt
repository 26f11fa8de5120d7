-- Formulas whose literals have variables from 1 to a number.
use Rattle.std.specs.Prelude.{ℕ, Bool, ◌&&◌, nat_le, List}
use Rattle.std.specs.List.{list_all}
use Rattle.clause_arena.specs.Clauses.{Lit, Clause}

-- the literal's variable is one of so many
abbrev pub is_lit_within : ℕ → Lit → Bool
is_lit_within variables l = nat_le 1 l.var && nat_le l.var variables

-- each literal's variable is
abbrev pub is_within : ℕ → Clause → Bool
is_within variables c = list_all (is_lit_within variables) c

-- each literal's variable of each clause is
abbrev pub are_within : ℕ → List Clause → Bool
are_within variables clauses = list_all (is_within variables) clauses
