-- Literals, clauses, and the assignments that satisfy them.
use Rattle.std.specs.Prelude.{◌≡◌, ◌≢◌, ◌⊎◌, ℕ, ◌-◌, Bool, false, not, if◌then◌else◌, IsTrue, List, [], ◌∷◌, slice_index_or}
use Rattle.std.specs.List.{list_any}

-- a variable or its complement
pub record Lit : Type 0 where
  pub var : ℕ
  pub negated : Bool

-- the complement of a literal
abbrev pub opposite : Lit → Lit
opposite l = record { var = l.var; negated = not l.negated }

-- the literals of a clause, one of which has to be true
abbrev pub Clause : Type 0
Clause = List Lit

-- the literal stands in the clause
abbrev pub In : Lit → Clause → Type 0
In l [] = ⊥
In l (m ∷ c) = (l ≡ m) ⊎ In l c

-- no two literals of the clause have one variable
abbrev pub HasEachVariableOnce : Clause → Type 0
HasEachVariableOnce [] = Unit {0}
HasEachVariableOnce (l ∷ c) = ((m : Lit) → In m c → m.var ≢ l.var) × HasEachVariableOnce c

-- under an assignment of the variables
abbrev pub lit_true : (ℕ → Bool) → Lit → Bool
lit_true v l = if l.negated then not (v l.var) else v l.var

-- some literal is true
abbrev pub clause_true : (ℕ → Bool) → Clause → Bool
clause_true v c = list_any (lit_true v) c

-- each clause is true
abbrev pub Satisfies : (ℕ → Bool) → List Clause → Type 0
Satisfies v [] = Unit {0}
Satisfies v (c ∷ formula) = IsTrue (clause_true v c) × Satisfies v formula

-- some assignment satisfies the clauses
abbrev pub IsSatisfiable : List Clause → Type 0
IsSatisfiable formula = (v : ℕ → Bool) × Satisfies v formula

-- no assignment satisfies the clauses
abbrev pub HaveNoSolution : List Clause → Type 0
HaveNoSolution formula = (v : ℕ → Bool) → Satisfies v formula → ⊥

-- an assignment as a list, whose place i is for variable i + 1
abbrev pub by_place : List Bool → ℕ → Bool
by_place values n = slice_index_or values (n - 1) false
