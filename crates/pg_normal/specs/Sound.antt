-- What an expression speaks of.
use Rattle.std.specs.Prelude.{ℕ, Bool, true, ◌&&◌, nat_lt, List}
use Rattle.std.specs.List.{list_all}
use Rattle.cpog_base.specs.Names.{has_text}
use Rattle.pg_algebra.specs.Conditions.{params_of}
use Rattle.pg_algebra.specs.declared.expr.Expr.{Expr, Empty, Op, Graph, When', Overlay', Sequence', Row_of-Expr, end_of-Expr, more_of-Expr}

-- whether each operation is below the count, and each parameter is known
abbrev mutual
  pub is_sound : ℕ → List (List ℕ) → Expr → Bool
  is_sound count params Empty = true
  is_sound count params (Op v) = nat_lt v count
  is_sound count params (Graph name) = true
  is_sound count params (When' c shape (more_of-Expr e end_of-Expr)) =
      list_all (has_text params) (params_of c) && is_sound count params e
  is_sound count params (Overlay' shape members) = is_sound_row count params members
  is_sound count params (Sequence' shape members) = is_sound_row count params members

  pub is_sound_row : {m : _} → ℕ → List (List ℕ) → Row_of-Expr m → Bool
  is_sound_row count params end_of-Expr = true
  is_sound_row count params (more_of-Expr e rest) = is_sound count params e && is_sound_row count params rest

-- each of these is
abbrev pub all_sound : ℕ → List (List ℕ) → List Expr → Bool
all_sound count params es = list_all (is_sound count params) es
