-- The value of a condition, and the parameters that it names.
use Rattle.std.specs.Prelude.{ℕ, Bool, true, false, not, ◌&&◌, ◌||◌, List, [], ◌∷◌, ◌++◌, Option, Some, None}
use Rattle.cpog_base.specs.Names.{place_of}
use Rattle.cpog_defs.specs.Codes.{bit}
use Rattle.pg_algebra.specs.declared.cond.Cond.{Cond, Bit, Param, Not', And', Or', Row_of-Cond, end_of-Cond, more_of-Cond}

-- the bit of each parameter, by its name
abbrev pub Valuation : Type 0
Valuation = List ℕ → Bool

-- a parameter has its bit, `!` turns the value round, `&` wants each member and `|` wants one
abbrev mutual
  pub value : Valuation → Cond → Bool
  value t (Bit b) = b
  value t (Param name) = t name
  value t (Not' shape (more_of-Cond c end_of-Cond)) = not (value t c)
  value t (And' shape members) = every_value t members
  value t (Or' shape members) = some_value t members

  pub every_value : {m : _} → Valuation → Row_of-Cond m → Bool
  every_value t end_of-Cond = true
  every_value t (more_of-Cond c rest) = value t c && every_value t rest

  pub some_value : {m : _} → Valuation → Row_of-Cond m → Bool
  some_value t end_of-Cond = false
  some_value t (more_of-Cond c rest) = value t c || some_value t rest

-- the names of the parameters that stand in a condition, in the order in which they are written
abbrev mutual
  pub params_of : Cond → List (List ℕ)
  params_of (Bit b) = []
  params_of (Param name) = name ∷ []
  params_of (Not' shape (more_of-Cond c end_of-Cond)) = params_of c
  params_of (And' shape members) = params_of_row members
  params_of (Or' shape members) = params_of_row members

  pub params_of_row : {m : _} → Row_of-Cond m → List (List ℕ)
  params_of_row end_of-Cond = []
  params_of_row (more_of-Cond c rest) = params_of c ++ params_of_row rest

-- the bit of a place, and 0 where there is none
abbrev pub bit_of_place : ℕ → Option ℕ → Bool
bit_of_place n None = false
bit_of_place n (Some k) = bit n k

-- valuation n over these parameters: bit k of n is the bit of parameter k
abbrev pub valuation : List (List ℕ) → ℕ → Valuation
valuation params n name = bit_of_place n (place_of params name)
