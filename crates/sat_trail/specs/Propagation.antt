-- Clauses under the literals T that are true.
use Rattle.std.specs.Prelude.{◌≢◌, List}
use Rattle.clause_arena.specs.Clauses.{Lit, opposite, Clause, In}

-- the literals of the clause other than l are false
abbrev pub OthersFalseIn : Clause → List Lit → Lit → Type 0
OthersFalseIn c T l = (m : Lit) → In m c → m ≢ l → In (opposite m) T

-- the clause is false throughout
abbrev pub IsFalseIn : Clause → List Lit → Type 0
IsFalseIn c T = (m : Lit) → In m c → In (opposite m) T

-- wherever the other literals are false, this one is true: propagation has nothing to do
abbrev pub IsQuiet : Clause → List Lit → Type 0
IsQuiet c T = (l : Lit) → In l c → OthersFalseIn c T l → In l T
