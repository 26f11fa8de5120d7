-- A column as two words: where it is One, and where it is Zero.
use Rattle.std.specs.Prelude.{◌≡◌, ◌≢◌, ℕ, zero, suc, ◌+◌, ◌*◌, ◌^◌, ◌<◌, ◌≤◌, Bool, true, false, if◌then◌else◌, IsTrue, List, [], ◌∷◌, ◌++◌, slice_index_or}
use Rattle.cpog_defs.specs.Entries.{entry_at}
use Rattle.cpog_defs.specs.Codes.{bit}
use Rattle.cpog_defs.specs.declared.types.Bit3.{Bit3}
use Rattle.cpog_defs.specs.declared.types.Bit3.TheVariants.{Zero, One, Free}

-- an entry that is 1
abbrev pub is_one : Bit3 → Bool
is_one One = true
is_one b = false

-- an entry that is 0
abbrev pub is_zero : Bit3 → Bool
is_zero Zero = true
is_zero b = false

-- the opposite of what is asked
abbrev pub opposite : Bit3 → Bit3
opposite Zero = One
opposite One = Zero
opposite Free = Free

-- wherever a asks for a bit, b asks for the same
abbrev pub Serves : List Bit3 → List Bit3 → Type 0
Serves b a = (s : ℕ) → entry_at a s ≢ Free → entry_at b s ≡ entry_at a s

-- wherever a asks for a bit, b asks for the opposite
abbrev pub Opposes : List Bit3 → List Bit3 → Type 0
Opposes b a = (s : ℕ) → entry_at a s ≢ Free → entry_at b s ≡ opposite (entry_at a s)

-- at place s both ask for a bit, and for the same
pub record AgreeAt (a b : List Bit3) (s : ℕ) : Type 0 where
  pub asked : entry_at a s ≢ Free
  pub same : entry_at b s ≡ entry_at a s

-- at place s both ask for a bit, and for opposite ones
pub record DifferAt (a b : List Bit3) (s : ℕ) : Type 0 where
  pub asked : entry_at a s ≢ Free
  pub other : entry_at b s ≡ opposite (entry_at a s)

abbrev pub AgreesSomewhere : List Bit3 → List Bit3 → Type 0
AgreesSomewhere a b = (s : ℕ) × AgreeAt a b s

abbrev pub DiffersSomewhere : List Bit3 → List Bit3 → Type 0
DiffersSomewhere a b = (s : ℕ) × DifferAt a b s

-- the entry that the two words' bits stand for
abbrev pub entry_of : ℕ → ℕ → ℕ → Bit3
entry_of one_bits zero_bits i = if bit one_bits i then One else (if bit zero_bits i then Zero else Free)

-- the first n entries
unfoldable pub entries : ℕ → ℕ → ℕ → List Bit3
entries zero one_bits zero_bits = []
entries (suc n) one_bits zero_bits = entries n one_bits zero_bits ++ entry_of one_bits zero_bits n ∷ []

-- the number whose bits below n say where a test holds
unfoldable pub word_where : (Bit3 → Bool) → ℕ → List Bit3 → ℕ
word_where p zero xs = 0
word_where p (suc n) xs = (if p (slice_index_or xs n Free) then 1 else 0) * 2 ^ n + word_where p n xs

-- bits below n alone, and none in both
pub record AreWords (n one_bits zero_bits : ℕ) : Type 0 where
  pub few : n ≤ 64
  pub ones_below : one_bits < 2 ^ n
  pub zeros_below : zero_bits < 2 ^ n
  pub apart : (i : ℕ) → IsTrue (bit one_bits i) → bit zero_bits i ≡ false
