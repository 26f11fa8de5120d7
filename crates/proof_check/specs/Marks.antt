-- Literals that a table of marks makes false: the mark of a literal is the stamp of the present line.
use Rattle.std.specs.Prelude.{◌≡◌, ◌≢◌, ℕ, ◌+◌, ◌*◌, ◌≤◌, List, slice_index_or, length}
use Rattle.clause_arena.specs.Clauses.{Lit, Clause, In, opposite}
use Rattle.clause_arena.specs.Lits.{code_of}

-- the literal is false
abbrev pub Marked : List ℕ → ℕ → Lit → Type 0
Marked marks stamp l = slice_index_or marks (code_of l) 0 ≡ stamp

-- each literal of the clause is
abbrev pub AllMarked : List ℕ → ℕ → Clause → Type 0
AllMarked marks stamp c = (m : Lit) → In m c → Marked marks stamp m

-- one literal alone isn't marked
pub record IsOpen (marks : List ℕ) (stamp : ℕ) (c : Clause) (l : Lit) : Type 0 where
  pub holds : In l c
  pub others : (m : Lit) → In m c → m ≢ l → Marked marks stamp m
  pub not_false : Marked marks stamp l → ⊥

-- and its complement isn't either
pub record IsMarkedUnit (marks : List ℕ) (stamp : ℕ) (c : Clause) (l : Lit) : Type 0 where
  pub open_alone : IsOpen marks stamp c l
  pub not_true : Marked marks stamp (opposite l) → ⊥

-- each literal's variable is at most this one
abbrev pub Within : ℕ → Clause → Type 0
Within variables c = (l : Lit) → In l c → l.var ≤ variables

-- exactly the literals of the list are marked
pub record Represent (variables : ℕ) (marks : List ℕ) (stamp : ℕ) (falses : List Lit) : Type 0 where
  pub marked : (m : Lit) → m.var ≤ variables → In m falses → Marked marks stamp m
  pub only : (m : Lit) → m.var ≤ variables → Marked marks stamp m → In m falses

-- a table for so many variables, in which no mark is above the stamp
pub record IsTable (variables : ℕ) (marks : List ℕ) (stamp : ℕ) : Type 0 where
  pub size : length marks ≡ 2 * variables + 2
  pub below : (k : ℕ) → slice_index_or marks k 0 ≤ stamp
