-- What is read at the front of some bytes, and the rest.
use Rattle.std.specs.Prelude.{◌≡◌, ℕ, List, ◌∷◌}
use Rattle.pg_text.specs.Tokens.{Token, sign, BeginsWith, BeginsWithAll}
use Rattle.pg_text.specs.Grammar.{Side, Row, Level, factor, row, product, sum, Phrase, joint, tokens, IsWithin, Tree, join, members, tree, names_after}

-- the token does not come next
abbrev pub Lacks : Token → List ℕ → Type 0
Lacks t bytes = (rest : List ℕ) → BeginsWith bytes t rest → ⊥

-- a row that ends here goes as far as it can: no sign of its own or of its members comes next
abbrev pub Stops : Side → Level → List ℕ → Type 0
Stops s factor rest = Unit {0}
Stops s (row product) rest = Lacks (sign (joint s product)) rest
Stops s (row sum) rest = Lacks (sign (joint s product)) rest × Lacks (sign (joint s sum)) rest

-- the phrase stands at the front, goes as far as it can, and has no token that is deeper than so many levels
pub record IsAtFront (room : ℕ) {s : Side} {l : Level} (bytes : List ℕ) (p : Phrase s l) (rest : List ℕ) : Type 0 where
  pub spelled : BeginsWithAll bytes (tokens p) rest
  pub within : IsWithin room p
  pub stops : Stops s l rest

-- a phrase stands at the front, with this tree, and these are the operation names before and after it
pub record Reads (s : Side) (l : Level) (room : ℕ) (names : List (List ℕ)) (bytes : List ℕ) (t : Tree s) (names_new : List (List ℕ)) (rest : List ℕ) : Type 0 where
  pub phrase : Phrase s l
  pub front : IsAtFront room bytes phrase rest
  pub means : t ≡ tree names phrase
  pub named : names_new ≡ names_after names phrase

-- a row stands at the front, and this is the tree of the row with one member more before it
pub record ReadsMore (s : Side) (r : Row) (room : ℕ) (names : List (List ℕ)) (first : Tree s) (bytes : List ℕ) (t : Tree s) (names_new : List (List ℕ)) (rest : List ℕ) : Type 0 where
  pub others : Phrase s (row r)
  pub front : IsAtFront room bytes others rest
  pub means : t ≡ join s (row r) (first ∷ members names others)
  pub named : names_new ≡ names_after names others

-- no phrase of the kind stands at the front
abbrev pub ReadsNone : Side → Level → ℕ → List ℕ → Type 0
ReadsNone s l room bytes = (p : Phrase s l) (rest : List ℕ) → IsAtFront room bytes p rest → ⊥
