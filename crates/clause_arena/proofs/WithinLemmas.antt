-- The test whether the variables of literals are within a number, said of each literal.
use Rattle.std.proofs.Common.{ℕ, ◌≤◌, IsTrue, List, [], ◌∷◌, refl}
use Rattle.std.specs.List.{All}
use Rattle.std.proofs.lemmas.Bool.{and_parts, and_from, le-leb, leb-true}
use Rattle.std.proofs.lemmas.List.Elements.{All-nil, All-cons, All-head, All-tail}
use Rattle.clause_arena.specs.Clauses.{Lit, Clause}
use Rattle.clause_arena.specs.Formulas.{is_lit_within, is_within, are_within}

-- the literal's variable is one of so many
abbrev pub LitWithin : ℕ → Lit → Type 0
LitWithin n l = (1 ≤ l.var) × (l.var ≤ n)

clause_passes : (n : ℕ) (c : Clause) → All (LitWithin n) c → IsTrue (is_within n c)
clause_passes n [] h = refl
clause_passes n (l ∷ c) h =
    let here = All-head (LitWithin n) l c h in
    and_from _ _ (and_from _ _ (le-leb 1 l.var here.0) (le-leb l.var n here.1)) (clause_passes n c (All-tail (LitWithin n) l c h))

pub within_from_all : (n : ℕ) (cs : List Clause) → All (λ c. All (LitWithin n) c) cs → IsTrue (are_within n cs)
within_from_all n [] h = refl
within_from_all n (c ∷ cs) h =
    let P = λ (d : Clause). All (LitWithin n) d in
    and_from _ _ (clause_passes n c (All-head P c cs h)) (within_from_all n cs (All-tail P c cs h))

pub lit_within : (n : ℕ) (l : Lit) → IsTrue (is_lit_within n l) → LitWithin n l
lit_within n l h = let p = and_parts _ _ h in (leb-true 1 l.var p.0, leb-true l.var n p.1)

all_of_clause : (n : ℕ) (c : Clause) → IsTrue (is_within n c) → All (LitWithin n) c
all_of_clause n [] h = All-nil (LitWithin n)
all_of_clause n (l ∷ c) h = let p = and_parts _ _ h in All-cons (LitWithin n) l c (lit_within n l p.0) (all_of_clause n c p.1)

pub all_from_within : (n : ℕ) (cs : List Clause) → IsTrue (are_within n cs) → All (λ c. All (LitWithin n) c) cs
all_from_within n [] h = All-nil (λ c. All (LitWithin n) c)
all_from_within n (c ∷ cs) h = let p = and_parts _ _ h in All-cons (λ d. All (LitWithin n) d) c cs (all_of_clause n c p.0) (all_from_within n cs p.1)
