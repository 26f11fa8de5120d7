-- What the readers keep of the clauses and lines that they have read.
use Rattle.std.specs.Prelude.{◌≡◌, ℕ, ◌<◌, ◌≤◌, Bool, true, false, List, [], ◌∷◌, length}
use Rattle.clause_arena.specs.Clauses.{Clause}
use Rattle.clause_arena.specs.Formulas.{is_within, are_within}
use Rattle.cpog_base.specs.declared.limits.TheConstants.{VARIABLE_LIMIT}
use Rattle.dimacs_text.specs.declared.body.Body.{Body}
use Rattle.dimacs_text.specs.declared.body.Body.TheVariants as bodies
use Rattle.dimacs_text.specs.declared.line_lits.LineLits.{LineLits}
use Rattle.dimacs_text.specs.declared.line_lits.LineLits.TheVariants as line_lits
use Rattle.dimacs_text.specs.Streams.{IsRoom, stream, NoneGoOn}

-- some literal stands there
abbrev pub is_filled : Clause → Bool
is_filled [] = false
is_filled (l ∷ c) = true

-- it keeps, or counts, these whole clauses and the literals of an open one
abbrev pub Holds : Body → List Clause → Clause → Type 0
Holds (bodies.Kept clauses open_lits) ds os = (clauses.clauses ≡ ds) × (open_lits.items ≡ os)
Holds (bodies.Counted clauses is_open) ds os = (clauses ≡ length ds) × (is_open ≡ is_filled os)

-- it keeps them exactly where there are not too many variables
abbrev pub IsFor : ℕ → Body → Type 0
IsFor variables (bodies.Kept clauses open_lits) = variables ≤ VARIABLE_LIMIT
IsFor variables (bodies.Counted clauses is_open) = VARIABLE_LIMIT < variables

-- a literal of this variable can be kept
abbrev pub IsFitting : ℕ → Body → Type 0
IsFitting n (bodies.Kept clauses open_lits) = n ≤ VARIABLE_LIMIT
IsFitting n (bodies.Counted clauses is_open) = Unit {0}

-- how many clauses are whole
abbrev pub count_of : Body → ℕ
count_of (bodies.Kept clauses open_lits) = length clauses.clauses
count_of (bodies.Counted clauses is_open) = clauses

-- these clauses were read, and more may follow
pub record Stands (variables count : ℕ) (body : Body) (ds : List Clause) (os : Clause) : Type 0 where
  pub holds : Holds body ds os
  pub left : IsRoom count ds os
  pub within : are_within variables ds ≡ true
  pub open_within : is_within variables os ≡ true

-- these words were taken, or no text goes on with them
abbrev pub IsTaken : ℕ → ℕ → Body → Body → List (List ℕ) → Bool → Type 0
IsTaken variables count old new words true = (ds : List Clause) (os : Clause) → Stands variables count old ds os → (ds' : List Clause) × (os' : Clause) × Stands variables count new ds' os' × (stream ds' os' [] ≡ stream ds os words)
IsTaken variables count old new words false = (ds : List Clause) (os : Clause) → Stands variables count old ds os → NoneGoOn variables count ds os words

-- it keeps these literals, or passes them over
abbrev pub HoldsLits : LineLits → Clause → Type 0
HoldsLits (line_lits.Kept lits) ls = lits.items ≡ ls
HoldsLits line_lits.Passed ls = Unit {0}

-- literals of so many variables can be kept
abbrev pub IsLitsFor : ℕ → LineLits → Type 0
IsLitsFor variables (line_lits.Kept lits) = variables ≤ VARIABLE_LIMIT
IsLitsFor variables line_lits.Passed = Unit {0}

-- a literal of this variable can be kept
abbrev pub IsLitFitting : ℕ → LineLits → Type 0
IsLitFitting n (line_lits.Kept lits) = n ≤ VARIABLE_LIMIT
IsLitFitting n line_lits.Passed = Unit {0}

-- literals are kept
abbrev pub IsKept : LineLits → Type 0
IsKept (line_lits.Kept lits) = Unit {0}
IsKept line_lits.Passed = ⊥
