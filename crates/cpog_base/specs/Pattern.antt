-- The given bits of a code as two words: which are given, and which of them are 1.
use Rattle.std.specs.Prelude.{ℕ, zero, suc, ◌<◌, ◌≤◌, ◌^◌, Bool, true, false, List, [], ◌∷◌, ◌++◌, if◌then◌else◌}
use Rattle.cpog_defs.specs.declared.types.Bit3.{Bit3}
use Rattle.cpog_defs.specs.declared.types.Bit3.TheVariants.{Zero, One, Free}
use Rattle.cpog_defs.specs.Entries.{Agrees, entry_at}
use Rattle.cpog_defs.specs.Codes.{bit}
use Rattle.cpog_base.specs.declared.limits.TheConstants.{BIT_LIMIT}
use Rattle.cpog_base.specs.Bits.{IsWithin}

-- a bit that is given
abbrev pub is_given : Bit3 → Bool
is_given Free = false
is_given b = true

-- the entry that the two words' bits stand for
abbrev pub given_at : ℕ → ℕ → ℕ → Bit3
given_at mask value i = if bit mask i then (if bit value i then One else Zero) else Free

-- the first n entries
unfoldable pub given_entries : ℕ → ℕ → ℕ → List Bit3
given_entries zero mask value = []
given_entries (suc n) mask value = given_entries n mask value ++ given_at mask value n ∷ []

-- few enough bits, and a value that has bits of the mask alone
pub record IsGiven (n mask value : ℕ) : Type 0 where
  pub few : n ≤ BIT_LIMIT
  pub mask_below : mask < 2 ^ n
  pub value_below : value < 2 ^ n
  pub within : IsWithin value mask

-- a word has the given bits
abbrev pub HasGivenBits : List Bit3 → ℕ → Type 0
HasGivenBits pattern word = (i : ℕ) → Agrees (entry_at pattern i) (bit word i)
