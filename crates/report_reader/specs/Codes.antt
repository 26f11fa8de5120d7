-- How codes and what is given of them are read.
use Rattle.std.specs.Prelude.{ℕ, zero, suc, ◌+◌, ◌*◌, ◌==◌, ◌&&◌, List, [], ◌∷◌, length, take, drop, replicate, Option, Some, None, if◌then◌else◌}
use Rattle.std.specs.List.{list_any}
use Rattle.cpog_defs.specs.declared.types.Bit3.{Bit3}
use Rattle.cpog_defs.specs.declared.types.Bit3.TheVariants.{Zero, One, Free}
use Rattle.cpog_base.specs.Pattern.{is_given}
use Rattle.line_rows.specs.Words.{◌>>=?◌}

-- a digit of a word
abbrev pub digit_in : ℕ → Option ℕ
digit_in b = if b == 48 then Some 0 else (if b == 49 then Some 1 else None)

-- so many digits, that of weight 1 first
abbrev pub digits_in : ℕ → List ℕ → Option ℕ
digits_in zero [] = Some 0
digits_in zero (b ∷ bs) = None
digits_in (suc n) [] = None
digits_in (suc n) (b ∷ bs) = digit_in b >>=? λ d. digits_in n bs >>=? λ w. Some (d + 2 * w)

-- what is asked of a bit
abbrev pub entry_in : ℕ → Option Bit3
entry_in b = if b == 48 then Some Zero else (if b == 49 then Some One else (if b == 45 then Some Free else None))

abbrev pub entries_in : List ℕ → Option (List Bit3)
entries_in [] = Some []
entries_in (b ∷ bs) = entry_in b >>=? λ e. entries_in bs >>=? λ es. Some (e ∷ es)

-- some bit is given, and there are so many
abbrev pub given_from : ℕ → List Bit3 → Option (List Bit3)
given_from bits es = if length es == bits && list_any is_given es then Some es else None

-- an entry for each bit
unfoldable pub pattern_in : ℕ → List ℕ → Option (List Bit3)
pattern_in bits bytes = entries_in bytes >>=? given_from bits

-- the entries behind a blank, or nothing where no bit is given
abbrev pub given_in : ℕ → List ℕ → Option (List Bit3)
given_in bits [] = Some (replicate bits Free)
given_in bits (b ∷ bs) = if b == 32 then pattern_in bits bs else None

-- the first bytes, and those behind them
abbrev pub split_of : {A B : Type 0} → ℕ → (List ℕ → Option A) → (List ℕ → Option B) → List ℕ → Option (A × B)
split_of n read more bytes = read (take n bytes) >>=? λ a. more (drop n bytes) >>=? λ b. Some (a, b)
