-- What a file says.
use Rattle.std.specs.Prelude.{ℕ, List}
use Rattle.pg_text.specs.declared.statement.Numbered.{Numbered}

-- its statements with the numbers of their lines, and the names of its operations, by their numbers
pub record Contents : Type 0 where
  pub statements : List Numbered
  pub operations : List (List ℕ)
