-- What a scenario may have: a word with the given bits, and the one fixed word where it is fixed.
use Rattle.std.specs.Prelude.{◌≡◌, ℕ, ◌<◌, List, [], length, slice_index, slice_index_or}
use Rattle.cpog_defs.specs.declared.types.Bit3.{Bit3}
use Rattle.cpog_base.specs.Pattern.{HasGivenBits}

-- the pattern of a scenario, and none past the end
abbrev pub pattern_at : List (List Bit3) → ℕ → List Bit3
pattern_at patterns s = slice_index_or patterns s []

-- a scenario may have a word: it has the given bits, and is the fixed one
pub record MayHave (patterns : List (List Bit3)) (fixed : List ℕ) (s word : ℕ) : Type 0 where
  pub given : HasGivenBits (pattern_at patterns s) word
  pub kept : s < length fixed → word ≡ slice_index fixed s
