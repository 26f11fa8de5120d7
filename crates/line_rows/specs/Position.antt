use Rattle.std.specs.Prelude.{ℕ, List}

-- where a reader stands: the lines that are left, and how many it has read
pub record Position : Type 0 where
  pub lines : List (List ℕ)
  pub number : ℕ
