-- What is asked of single bits.
use Rattle.std.specs.Prelude.{◌≡◌, ℕ, Bool, true, false, List, slice_index_or}
use Rattle.cpog_defs.specs.declared.types.Bit3.{Bit3}
use Rattle.cpog_defs.specs.declared.types.Bit3.TheVariants.{Zero, One, Free}

-- the bit is as asked
abbrev pub Agrees : Bit3 → Bool → Type 0
Agrees Zero b = b ≡ false
Agrees One b = b ≡ true
Agrees Free b = Unit {0}

-- the entry at a place, and nothing asked past the end
abbrev pub entry_at : List Bit3 → ℕ → Bit3
entry_at entries i = slice_index_or entries i Free
