-- The tokens of a line and how they are spelled.
use Rattle.std.specs.Prelude.{◌≡◌, ℕ, Bool, true, false, ◌==◌, ◌||◌, List, [], ◌∷◌, ◌++◌, codes}
use Rattle.std.specs.List.{list_all}
use Rattle.pg_text.specs.declared.sign.Sign.{Sign}
use Rattle.pg_text.specs.declared.sign.Sign.TheVariants as signs
use Rattle.pg_text.specs.declared.sign.Fixed.{Fixed}
use Rattle.pg_text.specs.declared.sign.Fixed.TheVariants as words
use Rattle.line_text.specs.Words.{continues_name, is_free_name}

-- a name, a keyword or a bit, or a sign
pub data Token : Type 0 where
  name : List ℕ → Token
  word : Fixed → Token
  sign : Sign → Token

abbrev pub sign_text : Sign → List ℕ
sign_text signs.Open = codes "("
sign_text signs.Close = codes ")"
sign_text signs.OpenSquare = codes "["
sign_text signs.CloseSquare = codes "]"
sign_text signs.Not = codes "!"
sign_text signs.Or = codes "|"
sign_text signs.And = codes "&"
sign_text signs.At = codes "@"
sign_text signs.Comma = codes ","
sign_text signs.Equals = codes "="
sign_text signs.Plus = codes "+"
sign_text signs.Arrow = codes "->"

abbrev pub word_text : Fixed → List ℕ
word_text words.Params = codes "params"
word_text words.Graph = codes "graph"
word_text words.Scenario = codes "scenario"
word_text words.With = codes "with"
word_text words.Empty = codes "empty"
word_text words.Zero = codes "0"
word_text words.One = codes "1"

-- a bit as a token
abbrev pub bit_word : Bool → Token
bit_word false = word words.Zero
bit_word true = word words.One

-- a blank or a tab
abbrev pub is_blank : ℕ → Bool
is_blank b = (b == 32) || (b == 9)

-- the bytes do not begin with one that passes
abbrev pub NoneFirst : (ℕ → Bool) → List ℕ → Type 0
NoneFirst p [] = Unit {0}
NoneFirst p (b ∷ bs) = p b ≡ false

-- a front of bytes that pass, as long as it can be
pub record IsRun (p : ℕ → Bool) (bytes run rest : List ℕ) : Type 0 where
  pub whole : bytes ≡ run ++ rest
  pub each : list_all p run ≡ true
  pub stops : NoneFirst p rest

-- the bytes begin with the token, and no blank: a word goes as far as letters, digits and `_` do
abbrev pub StartsWith : List ℕ → Token → List ℕ → Type 0
StartsWith bytes (name w) rest = (is_free_name w ≡ true) × IsRun continues_name bytes w rest
StartsWith bytes (word w) rest = IsRun continues_name bytes (word_text w) rest
StartsWith bytes (sign s) rest = bytes ≡ sign_text s ++ rest

-- the bytes begin with blanks, then the token, and then the rest
pub record BeginsWith (bytes : List ℕ) (t : Token) (rest : List ℕ) : Type 0 where
  pub blanks : List ℕ
  pub after : List ℕ
  pub run : IsRun is_blank bytes blanks after
  pub token : StartsWith after t rest

-- nothing, or a comment: `#` and whatever bytes
abbrev pub EndsHere : List ℕ → Type 0
EndsHere [] = Unit {0}
EndsHere (b ∷ bs) = b ≡ 35

-- blanks alone, or blanks and a comment
pub record HasNoToken (bytes : List ℕ) : Type 0 where
  pub blanks : List ℕ
  pub after : List ℕ
  pub run : IsRun is_blank bytes blanks after
  pub comment : EndsHere after

-- the bytes begin with these tokens, and then comes the rest
abbrev pub BeginsWithAll : List ℕ → List Token → List ℕ → Type 0
BeginsWithAll bytes [] rest = bytes ≡ rest
BeginsWithAll bytes (t ∷ ts) rest = (after : List ℕ) × BeginsWith bytes t after × BeginsWithAll after ts rest

-- the line is these tokens
abbrev pub Spells : List Token → List ℕ → Type 0
Spells ts line = (rest : List ℕ) × BeginsWithAll line ts rest × HasNoToken rest
