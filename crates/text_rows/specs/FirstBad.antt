-- The first bad line of a text.
use Rattle.std.specs.Prelude.{◌≡◌, ℕ, ◌+◌, List, [], ◌∷◌, ◌++◌, length}

-- no text begins with the good lines and the one behind them; where none is behind them, they are no text themselves
abbrev pub NoneBegins : (List (List ℕ) → Type 0) → List (List ℕ) → List (List ℕ) → Type 0
NoneBegins IsText good [] = IsText good → ⊥
NoneBegins IsText good (l ∷ rest) = (more : List (List ℕ)) → IsText (good ++ l ∷ more) → ⊥

-- line k, from 1, is the first bad one: the lines before it begin a text, and with it they begin none; where the lines
-- end too early, it is the one that is missing
pub record IsFirstBad (IsText : List (List ℕ) → Type 0) (lines : List (List ℕ)) (k : ℕ) : Type 0 where
  pub good : List (List ℕ)
  pub after : List (List ℕ)
  pub parts : lines ≡ good ++ after
  pub number : k ≡ length good + 1
  pub begins : (more : List (List ℕ)) × IsText (good ++ more)
  pub none : NoneBegins IsText good after
