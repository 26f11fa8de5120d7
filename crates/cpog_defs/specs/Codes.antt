-- Words, and the codes of scenarios. A word is a number: bit i has weight 2 to the power i.
use Rattle.std.specs.Prelude.{◌≡◌, ◌≢◌, ℕ, zero, suc, ◌/◌, ◌%◌, ◌^◌, ◌<◌, ◌==◌, Bool, List, [], ◌∷◌, ◌++◌, length, slice_get, Some, replicate}
use Rattle.std.specs.List.{All, AllPairs}
use Rattle.cpog_defs.specs.declared.types.Bit3.{Bit3}
use Rattle.cpog_defs.specs.Entries.{Agrees, entry_at}

-- bit i of a word
abbrev pub bit : ℕ → ℕ → Bool
bit word i = word / 2 ^ i % 2 == 1

-- the first n bits of a word, that of x0 first
abbrev pub word_bits : ℕ → ℕ → List Bool
word_bits word zero = []
word_bits word (suc n) = word_bits word n ++ bit word n ∷ []

-- one word of so many bits for each of n scenarios, any two different
pub record AreCodes (bits n : ℕ) (codes : List ℕ) : Type 0 where
  pub one_each : length codes ≡ n
  pub within : All (λ word. word < 2 ^ bits) codes
  pub distinct : AllPairs (λ a b. a ≢ b) codes

-- each code has the given bits of its scenario's pattern
pub record KeepGivenBits (patterns : List (List Bit3)) (codes : List ℕ) : Type 0 where
  pub one_each : length patterns ≡ length codes
  pub kept : (s word i : ℕ) (pattern : List Bit3) → slice_get codes s ≡ Some word → slice_get patterns s ≡ Some pattern → Agrees (entry_at pattern i) (bit word i)

-- patterns that leave each bit open
abbrev pub open_patterns : ℕ → List (List Bit3)
open_patterns n = replicate n []
