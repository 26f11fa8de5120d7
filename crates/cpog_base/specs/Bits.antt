-- Two words by their bits.
use Rattle.std.specs.Prelude.{ℕ, IsTrue}
use Rattle.cpog_defs.specs.Codes.{bit}

-- each bit of one is a bit of the other
abbrev pub IsWithin : ℕ → ℕ → Type 0
IsWithin word other = (i : ℕ) → IsTrue (bit word i) → IsTrue (bit other i)

-- some bit is one of both
abbrev pub ShareBit : ℕ → ℕ → Type 0
ShareBit word other = (i : ℕ) × (IsTrue (bit word i) × IsTrue (bit other i))
