-- The first bad line of a text, in terms of the values' lines alone.
use Rattle.std.specs.Prelude.{◌≡◌, ℕ, ◌+◌, List, [], ◌∷◌, ◌++◌, length, Result, Ok, Err}
use Rattle.line_rows.specs.declared.fault.ReadError.{ReadError}
use Rattle.line_rows.specs.declared.fault.ReadError.TheVariants as errors

-- some value's lines begin with these
abbrev pub Begins : {A : Type 0} → (A → Type 0) → (A → List (List ℕ)) → List (List ℕ) → Type 0
Begins Fits lines good = (v : _) × (more : List (List ℕ)) × Fits v × (lines v ≡ good ++ more)

-- no value's lines begin with the good lines and the bad one; where the lines end too early, no value has just them
abbrev pub NoneBegins : {A : Type 0} → (A → Type 0) → (A → List (List ℕ)) → List (List ℕ) → List (List ℕ) → Type 0
NoneBegins Fits lines good [] = (v : _) → Fits v → lines v ≡ good → ⊥
NoneBegins Fits lines good (l ∷ rest) = (v : _) (more : List (List ℕ)) → Fits v → lines v ≡ good ++ l ∷ more → ⊥

-- line k is the first that may not stand after those before it
pub record IsFirstBad {A : Type 0} (Fits : A → Type 0) (lines : A → List (List ℕ)) (text : List (List ℕ)) (k : ℕ) : Type 0 where
  pub good : List (List ℕ)
  pub after : List (List ℕ)
  pub parts : text ≡ good ++ after
  pub number : k ≡ length good + 1
  pub begins : Begins Fits lines good
  pub none : NoneBegins Fits lines good after

-- a bad line that is answered is the first
abbrev pub BadIsFirst : {X A : Type 0} → (A → Type 0) → (A → List (List ℕ)) → List (List ℕ) → Result X ReadError → Type 0
BadIsFirst Fits lines text (Ok x) = Unit {0}
BadIsFirst Fits lines text (Err errors.Memory) = Unit {0}
BadIsFirst Fits lines text (Err (errors.BadLine k)) = IsFirstBad Fits lines text k
