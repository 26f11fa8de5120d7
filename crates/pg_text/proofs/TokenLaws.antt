-- One token stands at the front of some bytes at most, and a comment is none.
use Rattle.std.specs.Prelude.{◌≡◌, ℕ, ◌<◌, Bool, true, false, ◌==◌, List, [], ◌∷◌, ◌++◌, length, drop, refl, codes, Option, Some, None, if◌then◌else◌}
use lib.Pointwise.{pointwise}
use lib.Dec.{eqb}
use Rattle.std.proofs.Common.{sym, ◌∙◌, ap, ap₂, subst, arith, length-append, suc, zero}
use Rattle.std.proofs.lemmas.Bool.{both_ways, and_parts}
use Rattle.std.proofs.lemmas.Bool.Decides.{nat_tests}
use Rattle.std.specs.List.{list_all}
use Rattle.std.specs.Str.{bytes_eq}
use Rattle.std.specs.Bool.{MatchBool}
use Rattle.std.specs.Option.{MatchOption}
use Rattle.std.specs.Borrow.{Bor}
use Rattle.std.specs.Str.{IsAscii, IsUtf8}
use Rattle.std.proofs.lemmas.Str.{IsUtf8-from_ascii}
use Rattle.pg_text.specs.declared.sign.Sign.{Sign}
use Rattle.pg_text.specs.declared.sign.Sign.TheVariants as signs
use Rattle.pg_text.specs.declared.sign.Fixed.{Fixed}
use Rattle.pg_text.specs.declared.sign.Fixed.TheVariants as words
use Rattle.line_text.specs.Words.{continues_name, is_free_name}
use Rattle.pg_text.specs.Tokens.{Token, name, word, sign, bit_word, sign_text, word_text, is_blank, IsRun, StartsWith, BeginsWith, EndsHere, HasNoToken}
use Rattle.pg_text.proofs.Runs.{same_run}

-- bytes of a word are ASCII
continues-lt : (b : ℕ) → continues_name b ≡ true → b < 128
continues-lt b h = grind (arith, nat_tests)

IsAscii-word : (w : List ℕ) → list_all continues_name w ≡ true → IsAscii w
IsAscii-word [] h zero = omega arith
IsAscii-word [] h (suc i) = omega arith
IsAscii-word (b ∷ w) h zero = continues-lt b (and_parts _ _ h).0
IsAscii-word (b ∷ w) h (suc i) = IsAscii-word w (and_parts _ _ h).1 i

pub IsUtf8-word : (w : List ℕ) → list_all continues_name w ≡ true → IsUtf8 w
IsUtf8-word w h = IsUtf8-from_ascii w (IsAscii-word w h)

-- the first byte
abbrev first : List ℕ → ℕ
first [] = 0
first (b ∷ bs) = b

-- ---- a sign is told by its first byte

abbrev sign_at : ℕ → Sign
sign_at b =
    if b == 40 then signs.Open else if b == 41 then signs.Close else if b == 91 then signs.OpenSquare else if b == 93 then signs.CloseSquare
    else if b == 33 then signs.Not else if b == 124 then signs.Or else if b == 38 then signs.And else if b == 64 then signs.At
    else if b == 44 then signs.Comma else if b == 61 then signs.Equals else if b == 43 then signs.Plus else signs.Arrow

sign_again : (s : Sign) (x : List ℕ) → sign_at (first (sign_text s ++ x)) ≡ s
sign_again signs.Open x = refl
sign_again signs.Close x = refl
sign_again signs.OpenSquare x = refl
sign_again signs.CloseSquare x = refl
sign_again signs.Not x = refl
sign_again signs.Or x = refl
sign_again signs.And x = refl
sign_again signs.At x = refl
sign_again signs.Comma x = refl
sign_again signs.Equals x = refl
sign_again signs.Plus x = refl
sign_again signs.Arrow x = refl

-- no word begins as a sign does, and no comment
sign_other : (s : Sign) (x : List ℕ) → continues_name (first (sign_text s ++ x)) ≡ false
sign_other signs.Open x = refl
sign_other signs.Close x = refl
sign_other signs.OpenSquare x = refl
sign_other signs.CloseSquare x = refl
sign_other signs.Not x = refl
sign_other signs.Or x = refl
sign_other signs.And x = refl
sign_other signs.At x = refl
sign_other signs.Comma x = refl
sign_other signs.Equals x = refl
sign_other signs.Plus x = refl
sign_other signs.Arrow x = refl

abbrev starts : ℕ → Bool
starts b = if b == 35 then false else if b == 0 then false else true

sign_starts : (s : Sign) (x : List ℕ) → starts (first (sign_text s ++ x)) ≡ true
sign_starts signs.Open x = refl
sign_starts signs.Close x = refl
sign_starts signs.OpenSquare x = refl
sign_starts signs.CloseSquare x = refl
sign_starts signs.Not x = refl
sign_starts signs.Or x = refl
sign_starts signs.And x = refl
sign_starts signs.At x = refl
sign_starts signs.Comma x = refl
sign_starts signs.Equals x = refl
sign_starts signs.Plus x = refl
sign_starts signs.Arrow x = refl

pub sign_drop : (s : Sign) (x : List ℕ) → drop (length (sign_text s)) (sign_text s ++ x) ≡ x
sign_drop signs.Open x = refl
sign_drop signs.Close x = refl
sign_drop signs.OpenSquare x = refl
sign_drop signs.CloseSquare x = refl
sign_drop signs.Not x = refl
sign_drop signs.Or x = refl
sign_drop signs.And x = refl
sign_drop signs.At x = refl
sign_drop signs.Comma x = refl
sign_drop signs.Equals x = refl
sign_drop signs.Plus x = refl
sign_drop signs.Arrow x = refl

sign-some : (s : Sign) → 0 < length (sign_text s)
sign-some signs.Open = omega arith
sign-some signs.Close = omega arith
sign-some signs.OpenSquare = omega arith
sign-some signs.CloseSquare = omega arith
sign-some signs.Not = omega arith
sign-some signs.Or = omega arith
sign-some signs.And = omega arith
sign-some signs.At = omega arith
sign-some signs.Comma = omega arith
sign-some signs.Equals = omega arith
sign-some signs.Plus = omega arith
sign-some signs.Arrow = omega arith

same_sign : (bytes : List ℕ) (s t : Sign) (x y : List ℕ) → bytes ≡ sign_text s ++ x → bytes ≡ sign_text t ++ y → (s ≡ t) × (x ≡ y)
same_sign bytes s t x y e h =
    let same : s ≡ t = sym (sign_again s x) ∙ ap (λ b. sign_at (first b)) (sym e ∙ h) ∙ sign_again t y in
    (same, sym (sign_drop s x) ∙ ap₂ (λ a b. drop (length (sign_text a)) b) same (sym e ∙ h) ∙ sign_drop t y)

-- ---- a keyword or a bit is told by its word

abbrev word_at : List ℕ → Fixed
word_at w =
    if bytes_eq w (codes "params") then words.Params else if bytes_eq w (codes "graph") then words.Graph else if bytes_eq w (codes "scenario") then words.Scenario
    else if bytes_eq w (codes "with") then words.With else if bytes_eq w (codes "empty") then words.Empty else if bytes_eq w (codes "0") then words.Zero else words.One

word_again : (w : Fixed) → word_at (word_text w) ≡ w
word_again words.Params = refl
word_again words.Graph = refl
word_again words.Scenario = refl
word_again words.With = refl
word_again words.Empty = refl
word_again words.Zero = refl
word_again words.One = refl

word_no_name : (w : Fixed) → is_free_name (word_text w) ≡ false
word_no_name words.Params = refl
word_no_name words.Graph = refl
word_no_name words.Scenario = refl
word_no_name words.With = refl
word_no_name words.Empty = refl
word_no_name words.Zero = refl
word_no_name words.One = refl

word-some : (w : Fixed) → 0 < length (word_text w)
word-some words.Params = omega arith
word-some words.Graph = omega arith
word-some words.Scenario = omega arith
word-some words.With = omega arith
word-some words.Empty = omega arith
word-some words.Zero = omega arith
word-some words.One = omega arith

pub same_word_text : (w : Fixed) → pointwise eqb (word_text w) (word_text w) ≡ true
same_word_text words.Params = refl
same_word_text words.Graph = refl
same_word_text words.Scenario = refl
same_word_text words.With = refl
same_word_text words.Empty = refl
same_word_text words.Zero = refl
same_word_text words.One = refl

same_word : (v w : Fixed) → word_text v ≡ word_text w → v ≡ w
same_word v w e = sym (word_again v) ∙ ap word_at e ∙ word_again w

-- a free name has a byte, and is no keyword and no bit
free-some : (w : List ℕ) → is_free_name w ≡ true → 0 < length w
free-some [] h = absurd (both_ways false refl h)
free-some (b ∷ w) h = omega arith

name_no_word : (w : List ℕ) (f : Fixed) → w ≡ word_text f → is_free_name w ≡ true → ⊥
name_no_word w f e h = both_ways (is_free_name w) (ap is_free_name e ∙ word_no_name f) h

-- ---- a word is no sign

word_first : (bytes w rest : List ℕ) → 0 < length w → IsRun continues_name bytes w rest → continues_name (first bytes) ≡ true
word_first bytes [] rest some run = absurd (omega arith)
word_first bytes (c ∷ w) rest some run = ap (λ b. continues_name (first b)) run.whole ∙ (and_parts (continues_name c) (list_all continues_name w) run.each).0

no_sign : (bytes w rest : List ℕ) (s : Sign) (more : List ℕ) → 0 < length w → IsRun continues_name bytes w rest → bytes ≡ sign_text s ++ more → ⊥
no_sign bytes w rest s more some run e = both_ways (continues_name (first bytes)) (ap (λ b. continues_name (first b)) e ∙ sign_other s more) (word_first bytes w rest some run)

-- ---- one token

same_start : (bytes : List ℕ) (t u : Token) (rest more : List ℕ) → StartsWith bytes t rest → StartsWith bytes u more → (t ≡ u) × (rest ≡ more)
same_start bytes (name v) (name w) rest more h k = let e = same_run continues_name bytes v w rest more h.1 k.1 in (ap name e.0, e.1)
same_start bytes (name v) (word w) rest more h k = absurd (name_no_word v w (same_run continues_name bytes v (word_text w) rest more h.1 k).0 h.0)
same_start bytes (name v) (sign s) rest more h k = absurd (no_sign bytes v rest s more (free-some v h.0) h.1 k)
same_start bytes (word v) (name w) rest more h k = absurd (name_no_word w v (same_run continues_name bytes w (word_text v) more rest k.1 h).0 k.0)
same_start bytes (word v) (word w) rest more h k = let e = same_run continues_name bytes (word_text v) (word_text w) rest more h k in (ap word (same_word v w e.0), e.1)
same_start bytes (word v) (sign s) rest more h k = absurd (no_sign bytes (word_text v) rest s more (word-some v) h k)
same_start bytes (sign s) (name w) rest more h k = absurd (no_sign bytes w more s rest (free-some w k.0) k.1 h)
same_start bytes (sign s) (word w) rest more h k = absurd (no_sign bytes (word_text w) more s rest (word-some w) k h)
same_start bytes (sign s) (sign t) rest more h k = let e = same_sign bytes s t rest more h k in (ap sign e.0, e.1)

-- ---- a comment is no token

no_comment : (bytes : List ℕ) → EndsHere bytes → (continues_name (first bytes) ≡ false) × (starts (first bytes) ≡ false)
no_comment [] c = (refl, refl)
no_comment (b ∷ bs) c = (ap continues_name c, ap starts c)

no_start : (bytes : List ℕ) (t : Token) (rest : List ℕ) → EndsHere bytes → StartsWith bytes t rest → ⊥
no_start bytes (name w) rest c h = both_ways (continues_name (first bytes)) (no_comment bytes c).0 (word_first bytes w rest (free-some w h.0) h.1)
no_start bytes (word w) rest c h = both_ways (continues_name (first bytes)) (no_comment bytes c).0 (word_first bytes (word_text w) rest (word-some w) h)
no_start bytes (sign s) rest c h = both_ways (starts (first bytes)) (no_comment bytes c).1 (ap (λ b. starts (first b)) h ∙ sign_starts s rest)

-- ---- after the blanks

pub start_after : (bytes blanks after : List ℕ) (t : Token) (rest : List ℕ) → IsRun is_blank bytes blanks after → BeginsWith bytes t rest → StartsWith after t rest
start_after bytes blanks after t rest run b = subst (λ x. StartsWith x t rest) (same_run is_blank bytes b.blanks blanks b.after after b.run run).1 b.token

pub comment_after : (bytes blanks after : List ℕ) → IsRun is_blank bytes blanks after → HasNoToken bytes → EndsHere after
comment_after bytes blanks after run h = subst EndsHere (same_run is_blank bytes h.blanks blanks h.after after h.run run).1 h.comment

pub same_token : (bytes : List ℕ) (t u : Token) (rest more : List ℕ) → BeginsWith bytes t rest → BeginsWith bytes u more → (t ≡ u) × (rest ≡ more)
same_token bytes t u rest more h k = same_start k.after t u rest more (start_after bytes k.blanks k.after t rest k.run h) k.token

pub no_token : (bytes : List ℕ) (t : Token) (rest : List ℕ) → HasNoToken bytes → BeginsWith bytes t rest → ⊥
no_token bytes t rest none h = no_start none.after t rest none.comment (start_after bytes none.blanks none.after t rest none.run h)

-- ---- a token is at least one byte

start-shorter : (bytes : List ℕ) (t : Token) (rest : List ℕ) → StartsWith bytes t rest → length rest < length bytes
start-shorter bytes (name w) rest h = omega (arith, free-some w h.0, ap length h.1.whole, length-append w rest)
start-shorter bytes (word w) rest h = omega (arith, ap length h.whole, length-append (word_text w) rest, word-some w)
start-shorter bytes (sign s) rest h = omega (arith, ap length h, length-append (sign_text s) rest, sign-some s)

pub token-shorter : (bytes : List ℕ) (t : Token) (rest : List ℕ) → BeginsWith bytes t rest → length rest < length bytes
token-shorter bytes t rest h = omega (arith, start-shorter h.after t rest h.token, ap length h.run.whole, length-append h.blanks h.after)

-- ---- what is said of the bytes after the blanks holds of all

pub ended_after : (bytes blanks after : List ℕ) (b : Bool) → IsRun is_blank bytes blanks after → MatchBool b (EndsHere after) (EndsHere after → ⊥) → MatchBool b (HasNoToken bytes) (HasNoToken bytes → ⊥)
ended_after bytes blanks after true run h = record { blanks = blanks; after = after; run = run; comment = h }
ended_after bytes blanks after false run h = λ none. h (comment_after bytes blanks after run none)

pub sign_after : (bytes blanks after : List ℕ) (s : Sign) (r : Option (Bor (List ℕ))) → IsRun is_blank bytes blanks after
    → MatchOption r ((rest : List ℕ) → after ≡ sign_text s ++ rest → ⊥) (λ rest. after ≡ sign_text s ++ rest.now)
    → MatchOption r ((rest : List ℕ) → BeginsWith bytes (sign s) rest → ⊥) (λ rest. BeginsWith bytes (sign s) rest.now)
sign_after bytes blanks after s None run h = λ rest b. h rest (start_after bytes blanks after (sign s) rest run b)
sign_after bytes blanks after s (Some x) run h = record { blanks = blanks; after = after; run = run; token = h }

pub no_name : (bytes blanks after front left : List ℕ) → IsRun is_blank bytes blanks after → IsRun continues_name after front left → is_free_name front ≡ false → (w rest : List ℕ) → BeginsWith bytes (name w) rest → ⊥
no_name bytes blanks after front left run cut other w rest b =
    let s = start_after bytes blanks after (name w) rest run b in
    both_ways (is_free_name front) other (ap is_free_name (same_run continues_name after front w left rest cut s.1).0 ∙ s.0)

pub no_word : (bytes blanks after front left : List ℕ) (w : Fixed) → IsRun is_blank bytes blanks after → IsRun continues_name after front left → (front ≡ word_text w → ⊥) → (rest : List ℕ) → BeginsWith bytes (word w) rest → ⊥
no_word bytes blanks after front left w run cut differs rest b =
    differs (same_run continues_name after front (word_text w) left rest cut (start_after bytes blanks after (word w) rest run b)).0

-- a word that a test finds to differ is another
pub differs : (w x v : List ℕ) → pointwise eqb v v ≡ true → false ≡ pointwise eqb w x → x ≡ v → w ≡ v → ⊥
differs w x v same test is e = both_ways (pointwise eqb w x) (sym test) (ap₂ (pointwise eqb) e is ∙ same)

-- a bit is 0 or 1
pub no_bit : (bytes : List ℕ) → ((rest : List ℕ) → BeginsWith bytes (word words.Zero) rest → ⊥) → ((rest : List ℕ) → BeginsWith bytes (word words.One) rest → ⊥) → (b : Bool) (rest : List ℕ) → BeginsWith bytes (bit_word b) rest → ⊥
no_bit bytes zero_lacks one_lacks false rest h = zero_lacks rest h
no_bit bytes zero_lacks one_lacks true rest h = one_lacks rest h
