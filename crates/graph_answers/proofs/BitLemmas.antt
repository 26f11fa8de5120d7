-- The bits of codes are one number.
use Rattle.std.proofs.Common.{◌≡◌, ℕ, Some, None, sym, ◌∙◌, arith}
use Rattle.std.specs.Prelude.{Option}
use Rattle.opcode_assign.specs.Bits.{IsLeastBits}
use Rattle.graph_answers.specs.declared.encodable.CodeLength.{CodeLength}
use Rattle.graph_answers.specs.Bits.{IsSaidOrLeast, IsBits}

-- one number is the least
pub one_least : (from n a b : ℕ) → IsLeastBits from n a → IsLeastBits from n b → a ≡ b
one_least from n a b h k = omega (arith, h.least b k.some k.enough, k.least a h.some h.enough)

-- the bits of so many scenarios are one number
pub one_bits : (asked : CodeLength) (n a b : ℕ) → IsBits asked n a → IsBits asked n b → a ≡ b
one_bits asked n a b = one asked.said
  where
    one : (said : Option ℕ) → IsSaidOrLeast asked.least said n a → IsSaidOrLeast asked.least said n b → a ≡ b
    one None h k = one_least asked.least n a b h k
    one (Some bits) h k = h ∙ sym k
