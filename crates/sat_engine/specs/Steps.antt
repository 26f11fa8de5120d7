-- What analysis and logging keep.
use Rattle.std.specs.Prelude.{◌≡◌, ◌≢◌, suc, ℕ, ◌<◌, ◌≤◌, List, [], ◌∷◌}
use Rattle.proof_check.specs.Following.{Live, HintsLead}
use Rattle.proof_check.specs.Lines.{Line, Add, Del}
use Rattle.proof_check.specs.Progress.{IsKnown}
use Rattle.clause_arena.specs.Clauses.{Lit, opposite, Clause, In}

-- wherever a clause's other literals are false, the last one is true
abbrev pub IsClosed : List Clause → (Lit → Type 0) → Type 0
IsClosed known S = (c : Clause) → IsKnown c known → (l : Lit) → In l c → ((m : Lit) → In m c → m ≢ l → S (opposite m)) → S l

-- no literal is in the set with its complement
abbrev pub IsConsistent : (Lit → Type 0) → Type 0
IsConsistent S = (l : Lit) → S l → S (opposite l) → ⊥

-- the hints lead from every list of false literals that holds the cut and none of the resolved ones
pub record CutLeads (live : Live) (S : Lit → Type 0) (Cut : Lit → Type 0) (resolved : List Lit) (hints : List ℕ) : Type 0 where
  pub lead : (falses : List Lit) → ((m : Lit) → Cut m → In m falses) → ((m : Lit) → In m falses → S (opposite m)) → ((r : Lit) → In r resolved → In (opposite r) falses → ⊥) → HintsLead live falses hints

-- the clauses of the additions, in order
abbrev pub added : List Line → List Clause
added [] = []
added (Add id lits hints ∷ lines) = lits ∷ added lines
added (Del ids ∷ lines) = added lines

-- the known clauses after these lines
abbrev pub known_after : List Clause → List Line → List Clause
known_after known [] = known
known_after known (Add id lits hints ∷ lines) = known_after (lits ∷ known) lines
known_after known (Del ids ∷ lines) = known_after known lines

-- each line is an addition, and their ids count on from n
abbrev pub CountsFrom : ℕ → List Line → Type 0
CountsFrom n [] = Unit {0}
CountsFrom n (Add id lits hints ∷ lines) = (id ≡ n) × CountsFrom (suc n) lines
CountsFrom n (Del ids ∷ lines) = ⊥

-- each literal's variable is 1 to so many
abbrev pub IsWithin : List Clause → ℕ → Type 0
IsWithin clauses variables = (c : Clause) → IsKnown c clauses → (l : Lit) → In l c → (0 < l.var) × (l.var ≤ variables)
