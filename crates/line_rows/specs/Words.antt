-- Words of a line, each seen with the one text that spells it, and how each is read.
use Rattle.std.specs.Prelude.{◌≡◌, ℕ, ◌-◌, ◌&&◌, ◌==◌, nat_le, nat_lt, List, length, take, drop, Option, Some, None, if◌then◌else◌}
use Rattle.std.specs.Fmt.{decimal}
use Rattle.std.specs.Str.{bytes_eq, all_ascii_digits}
use Rattle.std.specs.Str.Parse.{digits_value}
use Rattle.std.specs.List.{position_or_len, before_first, after_first}

-- What a reader of one text answers: the value that the text spells, or nothing where no value is spelled so.
abbrev pub Recovers : {X V : Type 0} → (X → V) → (V → Type 0) → (V → List ℕ) → List ℕ → Option X → Type 0
Recovers view Fits text bytes (Some x) = Fits (view x) × (bytes ≡ text (view x))
Recovers view Fits text bytes None = (v : _) → Fits v → bytes ≡ text v → ⊥

infixl 10 ◌>>=?◌
abbrev pub ◌>>=?◌ : {A B : Type 0} → Option A → (A → Option B) → Option B
(Some x) >>=? f = f x
None >>=? f = None

-- the number below the bound that is spelled so, with no leading zero
unfoldable pub number_in : ℕ → List ℕ → Option ℕ
number_in bound word = if all_ascii_digits word && (nat_lt (digits_value 10 word) bound && bytes_eq word (decimal (digits_value 10 word))) then Some (digits_value 10 word) else None

-- what follows a front, and what stands before an end
unfoldable pub behind : List ℕ → List ℕ → Option (List ℕ)
behind front bytes = if bytes_eq (take (length front) bytes) front then Some (drop (length front) bytes) else None

unfoldable pub before : List ℕ → List ℕ → Option (List ℕ)
before end bytes = if nat_le (length end) (length bytes) && bytes_eq (drop (length bytes - length end) bytes) end then Some (take (length bytes - length end) bytes) else None

-- the first word, and what follows its blank
unfoldable pub word_at : List ℕ → Option (List ℕ × List ℕ)
word_at bytes = if nat_lt (position_or_len (λ b. b == 32) bytes) (length bytes) then Some (before_first (λ b. b == 32) bytes, after_first (λ b. b == 32) bytes) else None

-- behind a front, before an end, two words, and what is made of them
abbrev pub behind_of : {V : Type 0} → List ℕ → (List ℕ → Option V) → List ℕ → Option V
behind_of front read bytes = behind front bytes >>=? read

abbrev pub before_of : {V : Type 0} → List ℕ → (List ℕ → Option V) → List ℕ → Option V
before_of end read bytes = before end bytes >>=? read

abbrev pub pair_of : {A B : Type 0} → (List ℕ → Option A) → (A → List ℕ → Option B) → List ℕ → Option (A × B)
pair_of read more bytes = word_at bytes >>=? λ w. read w.0 >>=? λ a. more a w.1 >>=? λ b. Some (a, b)

abbrev pub made_of : {A B : Type 0} → (A → Option B) → (List ℕ → Option A) → List ℕ → Option B
made_of make read bytes = read bytes >>=? make
