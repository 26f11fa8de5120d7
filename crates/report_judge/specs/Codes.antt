-- The first scenario whose code is an earlier one's, and the first whose code hasn't its given bits.
use Rattle.std.specs.Prelude.{◌≡◌, ℕ, ◌<◌, List, [], length, slice_index, slice_index_or}
use Rattle.cpog_defs.specs.declared.types.Bit3.{Bit3}
use Rattle.cpog_base.specs.Pattern.{HasGivenBits}

-- two places, the earlier below the later, that have one code
pub record HaveOneCode (codes : List ℕ) (later earlier : ℕ) : Type 0 where
  pub earlier_first : earlier < later
  pub within : later < length codes
  pub same : slice_index codes later ≡ slice_index codes earlier

-- the least place that has an earlier one's code, and the first that has it
pub record IsFirstSame (codes : List ℕ) (later earlier : ℕ) : Type 0 where
  pub same : HaveOneCode codes later earlier
  pub least : (i j : ℕ) → i < later → HaveOneCode codes i j → ⊥
  pub first : (j : ℕ) → j < earlier → HaveOneCode codes later j → ⊥

-- the code at a place has the given bits of its pattern
abbrev pub IsKeptAt : List (List Bit3) → List ℕ → ℕ → Type 0
IsKeptAt patterns codes s = HasGivenBits (slice_index_or patterns s []) (slice_index codes s)

-- the first place whose code hasn't
pub record IsFirstLost (patterns : List (List Bit3)) (codes : List ℕ) (s : ℕ) : Type 0 where
  pub within : s < length codes
  pub lost : IsKeptAt patterns codes s → ⊥
  pub kept : (t : ℕ) → t < s → IsKeptAt patterns codes t
