-- The least list of distinct words, and the first scenario up to which there is none.
use Rattle.std.specs.Prelude.{◌≡◌, ℕ, ◌+◌, ◌<◌, ◌≤◌, List, [], ◌∷◌, length, slice_index}
use Rattle.cpog_defs.specs.declared.types.Bit3.{Bit3}
use Rattle.cpog_defs.specs.declared.types.Bit3.TheVariants.{Free}
use Rattle.cpog_defs.specs.Entries.{entry_at}
use Rattle.cpog_defs.specs.Orders.{each_below}
use Rattle.gate_core.specs.Matching.{IsMatching}
use Rattle.gate_core.specs.Patterns.{pattern_at, MayHave}

-- distinct words below a number, one for each of the first n patterns, which agree
abbrev pub Agree : List (List Bit3) → ℕ → ℕ → List ℕ → Type 0
Agree patterns top n words = IsMatching (MayHave patterns []) top n words

-- the scenarios up to k have no such list, and those before k have one
pub record IsFirstClash (patterns : List (List Bit3)) (top k : ℕ) : Type 0 where
  pub within : k < length patterns
  pub none : (words : List ℕ) → Agree patterns top (k + 1) words → ⊥
  pub words : List ℕ
  pub before : Agree patterns top k words

-- no other such list is less at the first place where they differ
pub record AreLeast (patterns : List (List Bit3)) (top : ℕ) (words : List ℕ) : Type 0 where
  pub one_each : length words ≡ length patterns
  pub agree : Agree patterns top (length patterns) words
  pub least : (other : List ℕ) (k : ℕ) → k < length patterns → Agree patterns top (length patterns) other →
      ((j : ℕ) → j < k → slice_index other j ≡ slice_index words j) → slice_index words k ≤ slice_index other k

-- no bit is given
abbrev pub NoneGiven : List (List Bit3) → Type 0
NoneGiven patterns = (s i : ℕ) → entry_at (pattern_at patterns s) i ≡ Free

-- the numbers below n, in order
abbrev pub numbers : ℕ → List ℕ
numbers n = each_below (λ s. s ∷ []) n
