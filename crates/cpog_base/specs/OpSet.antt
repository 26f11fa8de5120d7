-- A set of operations: numbers below 128, kept as the bits of one word.
use Rattle.std.specs.Prelude.{ℕ, zero, suc, ◌+◌, ◌*◌, ◌^◌, ◌==◌, cond}
use Rattle.std.specs.Ordering.{nat_cmp}
use Rattle.std.specs.Int.{bit_at}
use Rattle.std.specs.FinSet.{FinSet, empty, insert, contains}

-- the numbers below w whose bit of n is 1
unfoldable pub set_below : ℕ → ℕ → FinSet nat_cmp
set_below zero n = empty
set_below (suc w) n = cond (bit_at n w == 1) (insert (set_below w n) w) (set_below w n)

-- the set that a word of 128 bits stands for
abbrev pub set_of : ℕ → FinSet nat_cmp
set_of n = set_below 128 n

-- the word of w bits that stands for the members below w
unfoldable pub word_below : ℕ → FinSet nat_cmp → ℕ
word_below zero s = 0
word_below (suc w) s = cond (contains s w) 1 0 * 2 ^ w + word_below w s

-- the word that stands for the members below 128
abbrev pub word_of : FinSet nat_cmp → ℕ
word_of s = word_below 128 s
