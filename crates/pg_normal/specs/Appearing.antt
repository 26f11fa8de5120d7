-- The operations of an expression in the order in which they first appear.
use Rattle.std.specs.Prelude.{ℕ, Bool, List, [], ◌∷◌, ◌++◌, ◌==◌, fold, if◌then◌else◌}
use Rattle.std.specs.List.{list_any}
use Rattle.pg_algebra.specs.declared.expr.Expr.{Expr, Empty, Op, Graph, When', Overlay', Sequence', Row_of-Expr, end_of-Expr, more_of-Expr}

-- the operations as they stand in the text, under whatever condition, with those of an earlier graph in the place of
-- its name
abbrev mutual
  pub appearing : (List ℕ → List ℕ) → Expr → List ℕ
  appearing earlier Empty = []
  appearing earlier (Op v) = v ∷ []
  appearing earlier (Graph name) = earlier name
  appearing earlier (When' c shape (more_of-Expr e end_of-Expr)) = appearing earlier e
  appearing earlier (Overlay' shape members) = appearing_row earlier members
  appearing earlier (Sequence' shape members) = appearing_row earlier members

  pub appearing_row : {m : _} → (List ℕ → List ℕ) → Row_of-Expr m → List ℕ
  appearing_row earlier end_of-Expr = []
  appearing_row earlier (more_of-Expr e rest) = appearing earlier e ++ appearing_row earlier rest

-- whether the list has the number
abbrev pub has : List ℕ → ℕ → Bool
has vs v = list_any (λ w. v == w) vs

-- the list with the number: a new one goes last
abbrev pub with_number : List ℕ → ℕ → List ℕ
with_number vs v = if has vs v then vs else vs ++ v ∷ []

-- the list with all of these
abbrev pub with_numbers : List ℕ → List ℕ → List ℕ
with_numbers vs more = fold with_number vs more

-- the operations of an expression, each at the place where it first appears
abbrev pub first_appearing : (List ℕ → List ℕ) → Expr → List ℕ
first_appearing earlier e = with_numbers [] (appearing earlier e)
