-- Bounds on the number of gates.
use Rattle.std.specs.Prelude.{◌≡◌, ℕ, ◌<◌, List, length}
use Rattle.cpog_defs.specs.declared.types.Bit3.{Bit3}
use Rattle.cpog_defs.specs.Orders.{Order}
use Rattle.cpog_defs.specs.Encodings.{Encoding, HasEncoding}

-- No encoding of so many bits, which keeps the given bits, has fewer gates than this. It speaks of all encodings of one
-- count of operations: where the orders are of another count, or 2 to the power bits is below their number, it says
-- nothing.
abbrev pub IsLowerBound : ℕ → List Order → List (List Bit3) → ℕ → ℕ → Type 0
IsLowerBound count orders patterns bits lo = (cost : ℕ) → cost < lo → HasEncoding count orders patterns bits cost → ⊥

-- the encoding has hi gates, and none has fewer than lo: it has the fewest where these are equal
pub record AreBounds (count : ℕ) (orders : List Order) (patterns : List (List Bit3)) (bits : ℕ) (e : Encoding)
    (lo hi : ℕ) : Type 0 where
  pub upper : length e.gates.gates ≡ hi
  pub lower : IsLowerBound count orders patterns bits lo
